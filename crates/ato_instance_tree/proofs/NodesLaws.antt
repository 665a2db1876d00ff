-- Where no fault of the tree stands, the nodes are the root and the members of each instance that is one.
use Rattle.std.proofs.Common.{◌≡◌, ◌<◌, ℕ, suc, List, [], ◌∷◌, length, Some, None, inl, inr, refl, ap, subst, arith}
use Rattle.ato_files.specs.declared.program.SourceFile.{SourceFile}
use Rattle.ato_files.specs.Lists.{Among, here, there}
use Rattle.ato_files.specs.Blocks.{blocks_of}
use Rattle.ato_files.specs.Members.{instance}
use Rattle.ato_instance_tree.specs.Members.{named, members}
use Rattle.ato_instance_tree.specs.Walk.{type_at}
use Rattle.ato_instance_tree.specs.Order.{leaf, made_at, nodes}
use Rattle.ato_instance_tree.specs.TreeFaults.{Limits, tree_fault}
use Rattle.ato_instance_tree.specs.Laws.{AreNodes}
use Rattle.ato_instance_tree.proofs.DepthLaws.{nothing_is_cut}
use Rattle.ato_instance_tree.proofs.SpotLaws.{IsIn}
use Rattle.ato_instance_tree.proofs.NodeLaws.{leaf_stands, instance_stands, has_leaf, has_instance}

pub into : {X : Type 0} (x : X) (xs : List X) → Among x xs → IsIn x xs
into x [] h = elim h [ ]
into x (y ∷ ys) here = inl refl
into x (y ∷ ys) (there h) = inr (into x ys h)

pub out : {X : Type 0} (x : X) (xs : List X) → IsIn x xs → Among x xs
out x [] h = absurd h
out x (y ∷ ys) (inl e) = subst (λ z. Among x (z ∷ ys)) e here
out x (y ∷ ys) (inr h) = there (out x ys h)

nil_cons : (n : ℕ) (path : List ℕ) → n ∷ path ≡ [] → ⊥
nil_cons n path e = let long = ap length e in omega arith

pub are_nodes : (files : List SourceFile) (entry : ℕ) (most : Limits) → entry < length (blocks_of files) → tree_fault files most (Some entry) ≡ None → AreNodes files entry
are_nodes files entry most h none =
    let depth = suc (length (blocks_of files)) in
    let all = nodes files entry in
    record {
      root = here;
      leaves = λ path m. (
        (λ k. let is = leaf_stands files entry depth [] path m (into (leaf path m) all k) in
            (out (made_at path) all is.at, out m (members files (type_at files entry path)) is.is, is.no_instance)),
        (λ k. out (leaf path m) all (has_leaf files entry depth [] path m (record {
          at = into (made_at path) all k.0;
          is = into m (members files (type_at files entry path)) k.1;
          no_instance = k.2;
        }))),
      );
      instances = λ path n. (
        (λ k. elim (instance_stands files entry depth [] path n (into (made_at (n ∷ path)) all k)) [
          | inl e ↦ absurd (nil_cons n path e)
          | inr is ↦ (
            out (made_at path) all is.at,
            record {
              name = is.is.name;
              type = is.is.type;
              called = is.is.called;
              is = out (named is.is.name (instance is.is.type)) (members files (type_at files entry path)) is.is.is;
            },
          )
        ]),
        (λ k. out (made_at (n ∷ path)) all (subst (IsIn (made_at (n ∷ path))) (nothing_is_cut files entry (suc depth) most h none (omega arith)) (has_instance files entry depth [] path n (record {
          at = into (made_at path) all k.0;
          is = record {
            name = k.1.name;
            type = k.1.type;
            called = k.1.called;
            is = into (named k.1.name (instance k.1.type)) (members files (type_at files entry path)) k.1.is;
          };
        })))),
      );
    }
