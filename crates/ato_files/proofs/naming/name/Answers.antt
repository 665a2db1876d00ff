use Rattle.std.proofs.Common.{rules, ◌≡◌, None, refl}
use Rattle.ato_files.specs.Lineages.{parent}
use Rattle.ato_files.specs.NameFaults.{name_fault}
use Rattle.ato_files.proofs.BlockLaws.{no_loop}
use Rattle.ato_files.proofs.naming.name.Goals as goal

pub returns : goal.returns
returns c =
    let sound : name_fault c.args.files.now ≡ None = search rules in (
      sound,
      c.in_ok-block_infos.ensures c.args.files.now (record {
        stand = search rules;
        have = c.in_ok-lineages.ensures.lineages c.args.files.now (search rules);
        end = λ number less. no_loop c.args.files.now sound number (parent c.args.files.now number) refl;
      }),
    )
