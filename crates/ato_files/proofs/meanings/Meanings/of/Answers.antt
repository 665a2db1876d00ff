use Rattle.std.proofs.Common.{◌≤◌, ℕ, List, Option, [], ◌∷◌, ◌++◌, refl, length, take, ap, ◌∙◌, subst, arith}
use Rattle.std.specs.Prelude.{map}
use Rattle.std.specs.List.{flat_map}
use Rattle.std.proofs.lemmas.List.{take_all}
use Rattle.ato_files.specs.declared.program.SourceFile.{SourceFile}
use Rattle.ato_files.specs.Lists.{numbered}
use Rattle.ato_files.specs.NameMaps.{AreFirst}
use Rattle.ato_files.specs.Meant.{own_pairs, file_pairs, targets_in}
use Rattle.ato_files.proofs.NumberedLemmas.{flat_numbered_read}
use Rattle.ato_files.proofs.MeantLemmas.{are_meanings, mapped_read}
use Rattle.ato_files.proofs.meanings.Meanings.of.Goals as goal

pub loop-number-preserved : goal.loop-number-preserved
loop-number-preserved c =
    let files = c.args.files.now in
    let i = c.loop-number.number in
    let file = c.index-files-number.result in
    record {
      targets = mapped_read (targets_in files) files i file c.loop-number.targets c.push.new.self c.loop-number-test.true c.index-files-number.is c.loop-number.invariant.targets
          (c.in_ok-push.ensures.ok ∙ ap (λ (t : List (Option ℕ)). c.loop-number.targets ++ t ∷ []) (c.in_ok-file_targets.ensures.targets ∙ ap (λ (fs : List SourceFile). targets_in fs file) c.in_ok-names.ensures.files));
      pairs =
          let before = flat_map (file_pairs files) (numbered 0 (take i files)) in
          subst (λ pairs. AreFirst pairs c.file_targets.new.imported)
          (flat_numbered_read (file_pairs files) files i file [] before (before ++ file_pairs files (i, file)) c.loop-number-test.true c.index-files-number.is refl refl)
          (subst (λ (fs : List SourceFile). AreFirst (before ++ file_pairs fs (i, file)) c.file_targets.new.imported) c.in_ok-names.ensures.files
          (c.in_ok-file_targets.ensures.pairs before c.loop-number.invariant.pairs));
    }

pub returns : goal.returns
returns c =
    let files = c.args.files.now in
    let past : length files ≤ c.loop-number.number = omega arith in
    let whole = take_all c.loop-number.number files past in
    are_meanings files _
    (subst (λ fs. AreFirst (own_pairs fs) c.in_ok-names.names.own) c.in_ok-names.ensures.files c.in_ok-names.ensures.own.own)
    (subst (λ fs. AreFirst (flat_map (file_pairs files) (numbered 0 fs)) c.loop-number.imported) whole c.loop-number.invariant.pairs)
    (c.loop-number.invariant.targets ∙ ap (map (targets_in files)) whole)
