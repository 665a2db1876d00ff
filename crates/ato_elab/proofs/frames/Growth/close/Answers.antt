use Rattle.std.proofs.Common.{length}
use Rattle.ato_files.specs.Blocks.{blocks_of}
use Rattle.ato_elab.specs.Building.{types_of}
use Rattle.ato_elab.proofs.FrameLaws.{is_below, one_less, unmarked}
use Rattle.ato_elab.proofs.frames.Growth.close.Goals as goal

pub returns : goal.returns
returns c = λ given entry fs none was.
    let p = given.program.now in
    let f = c.args.frame.now in
    let g = c.args.self.now in
    record {
      given_is = was.given_is;
      done = was.done;
      is = one_less p.files p.names entry given.most was.done f fs g.built g.marks c.set.new.self g.counts was.is none
          (unmarked (length (blocks_of p.files)) f.block (types_of fs) g.marks c.set.new.self was.is.marked was.is.differ
          (is_below p.files p.names entry given.most was.done f fs g.built g.marks g.counts was.is)
          c.set.ensures.length c.set.ensures.others);
    }
