use Rattle.std.proofs.Common.{◌+◌, ◌∷◌, refl}
use Rattle.ato_instance_tree.specs.Members.{named}
use Rattle.ato_elab.specs.Building.{left, made, next_of, path_of}
use Rattle.ato_elab.proofs.FrameLaws.{kind_is_leaf, one_leaf, spot_here}
use Rattle.ato_elab.proofs.frames.Growth.put_named.Goals as goal

pub returns : goal.returns
returns c = λ entry fs k leaf_kind here was.
    let p = c.args.given.now.program.now in
    let f = c.args.frame.now in
    let g = c.args.self.now in
    let at = spot_here p.files p.names entry c.args.given.now.most was.done f fs g.built g.marks g.counts was.is in
    record {
      given_is = was.given_is;
      done = _;
      is = one_leaf p.files p.names entry c.args.given.now.most was.done f fs g.built g.marks g.counts was.is (named c.args.name k) (left (next_of f)) (f.next + 1) c.put_named.new.self here refl
          (kind_is_leaf c.args.name k c.args.kind leaf_kind)
          (c.in_ok-put_named.ensures p.files entry was.done (made was.done) (path_of (f ∷ fs)) c.args.name k refl leaf_kind was.is.so_far at);
    }
