-- The root, and a tree that is whole.
use Rattle.std.proofs.Common.{◌≡◌, ◌<◌, ◌≤◌, ℕ, suc, ◌+◌, Bool, true, false, true≢false, nat_eq, List, [], ◌∷◌, ◌++◌, map, Option, Some, None, refl, sym, ap, ◌∙◌, subst, length, append-nil, arith}
use Rattle.std.specs.Prelude.{option_to_list}
use Rattle.std.specs.List.{flat_map, IsDistinct}
use Rattle.ato_base.specs.declared.faults.Fault.{Fault}
use Rattle.ato_base.specs.declared.faults.FaultKind.TheVariants as kinds
use Rattle.ato_base.specs.declared.faults.Refusal.{Refusal}
use Rattle.ato_base.specs.declared.places.Place.TheVariants as place
use Rattle.ato_files.specs.declared.program.SourceFile.{SourceFile}
use Rattle.ato_files.specs.Blocks.{blocks_of}
use Rattle.ato_files.specs.Lists.{first_of_all}
use Rattle.ato_files.specs.Programs.{AreBlocks}
use Rattle.ato_instance_tree.specs.Members.{Member}
use Rattle.ato_instance_tree.specs.Order.{Spot, made_at, member_spots, spots, nodes}
use Rattle.ato_instance_tree.specs.TreeFaults.{fault_in, faults_from, instance_faults, size_faults, too_large, tree_fault}
use Rattle.ato_instance_tree.specs.Types.{type_stmts}
use Rattle.ato_elab.specs.declared.built.Built.{Built}
use Rattle.ato_elab.specs.declared.contents.Content.{Content}
use Rattle.ato_elab.specs.declared.frames.Counts.{Counts}
use Rattle.ato_elab.specs.declared.frames.Given.{Given}
use Rattle.ato_elab.specs.declared.frames.Growth.{Growth}
use Rattle.ato_elab.specs.declared.marks.Marks.{Marks}
use Rattle.ato_elab.specs.declared.ways.Ways.{Ways}
use Rattle.ato_elab.specs.Building.{made as made_of, limits_of, AreCounted, IsBuilding, IsDone, IsGiven, Refuses, RefusesTree, is_over, remaining}
use Rattle.ato_elab.specs.Built.{IsBuilt}
use Rattle.ato_elab.specs.Entering.{IsContent, IsEmpty, IsWhole, IsWithin, with_content}
use Rattle.ato_elab.specs.Growing.{IsSoFar}
use Rattle.ato_elab.specs.Marks.{AreMarked}
use Rattle.ato_elab.specs.Ways.{AreWays}
use Rattle.ato_elab.proofs.EnterLaws.{more_below, nil_both, none_if, opened}
use Rattle.ato_elab.proofs.HereLaws.{first_stands, one_if, refuses}
use Rattle.ato_elab.proofs.LedLemmas.{counted_more, news_below, over_is, waits_first}

-- ---- the root

none_counted : (files : List SourceFile) (entry : ℕ) (most counts : Counts) → counts.nodes ≡ 0 → counts.occurrences ≡ 0 → AreCounted files entry most counts []
none_counted files entry most counts nodes occs = record { nodes = nodes; occurrences = occs; few_nodes = omega arith; few_occurrences = omega arith }

pub root_refused : (given : Given) (entry : ℕ) (g : Growth) (content : Content) (r : Refusal) → IsEmpty given g → IsContent given.program.now.files entry content
    → is_over given.most (with_content g.counts content) ≡ true → Refuses r (fault_in [] kinds.TreeTooLarge (place.Word 1)) → RefusesTree given entry r
root_refused given entry g content r empty holds over same =
    let files = given.program.now.files in
    let x = fault_in [] kinds.TreeTooLarge (place.Word 1) in
    let many = over_is files entry entry given.most g.counts [] [] content (none_counted files entry given.most g.counts empty.nodes empty.occurrences) refl holds ∙ over in
    refuses given entry r x same (first_stands files entry (limits_of given.most) [] _ [] x refl refl
    (ap first_of_all (one_if (too_large files entry (limits_of given.most) ([] ∷ [])) x many)))

one_distinct : (t : ℕ) → IsDistinct nat_eq (t ∷ [])
unfolding IsDistinct
one_distinct t = (tt, tt)

-- the tree with its root
pub rooted : (given : Given) (entry : ℕ) (g : Growth) (content : Content) (ways : Ways) (new : Built) (marked : Marks) (sum : Counts) → IsGiven given.program.now given.meanings.now
    → entry < length (blocks_of given.program.now.files) → IsEmpty given g → IsContent given.program.now.files entry content → IsWithin given.most g.counts content sum
    → IsSoFar given.program.now.files given.program.now.names entry (made_at [] ∷ []) ([] ∷ []) new → AreWays given.program.now.files content.statements [] ways
    → AreMarked (length (blocks_of given.program.now.files)) (entry ∷ []) marked
    → IsBuilding given entry (opened 0 None entry content ways ∷ []) (record { built = new; marks = marked; counts = sum })
rooted given entry g content ways new marked sum is_given below empty holds within now ways_are marks_are =
    let files = given.program.now.files in
    let none = none_counted files entry given.most g.counts empty.nodes empty.occurrences in
    let few : too_large files entry (limits_of given.most) ([] ∷ []) ≡ false = over_is files entry entry given.most g.counts [] [] content none refl holds ∙ ap (is_over given.most) (sym within.sum) ∙ within.few in
    let F = member_spots (spots files entry (length (blocks_of files))) [] in
    record {
      given_is = is_given;
      done = made_at [] ∷ [];
      is = record {
        so_far = now;
        depth = length (blocks_of files);
        levels = omega arith;
        parts = ap (λ (ss : List Spot). made_at [] ∷ ss) (append-nil _ ∙ ap (flat_map F) holds.members);
        frames = (
          record {
            spot = refl;
            type = refl;
            around = refl;
            news = news_below files entry content.statements [] ways holds.statements ways_are;
            changes = waits_first files entry content.statements ways holds.statements ways_are;
          },
          tt,
        );
        differ = one_distinct entry;
        below = more_below entry (length (blocks_of files)) [] below (λ q k. absurd (true≢false (sym k)));
        marked = marks_are;
        sound = nil_both (instance_faults files entry (limits_of given.most) [] []) [] (none_if (too_large files entry (limits_of given.most) ([] ∷ [])) (fault_in [] kinds.TreeTooLarge (place.Word 1) ∷ []) few) refl;
        counted = counted_more files entry entry given.most g.counts sum [] [] content none refl holds within;
      };
    }

pub marks_here : (given : Given) (g : Growth) → IsGiven given.program.now given.meanings.now → IsEmpty given g → AreMarked (length (blocks_of given.program.now.files)) [] g.marks
marks_here given g is_given empty = subst (λ (n : ℕ). AreMarked n [] g.marks) is_given.blocks.count empty.marked

-- ---- the whole tree

pub finished : (given : Given) (entry : ℕ) (g : Growth) → IsBuilding given entry [] g → IsWhole given entry g.built
finished given entry g was =
    let files = given.program.now.files in
    let names = given.program.now.names in
    let most = limits_of given.most in
    let all : was.done ≡ nodes files entry = sym (append-nil was.done) ∙ was.is.parts in
    let so_far = subst (λ (d : List Spot). IsSoFar files names entry d (made_of d) g.built) all was.is.so_far in
    record {
      tree = record { told = so_far.told; written = so_far.written; under = so_far.under; places = so_far.held.each };
      sound = ap (λ (d : List Spot). first_of_all (faults_from files entry most [] (made_of d))) (sym all) ∙ ap first_of_all was.is.sound;
    }
