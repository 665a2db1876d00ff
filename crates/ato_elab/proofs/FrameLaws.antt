-- What one more node and one instance less do to what is built.
use Rattle.std.proofs.Common.{◌≡◌, ◌<◌, ◌≤◌, ℕ, zero, suc, ◌+◌, Bool, true, false, true≢false, nat_eq, List, [], ◌∷◌, ◌++◌, map, Option, Some, None, refl, sym, ap, ◌∙◌, subst, length, append_assoc, append-nil, arith}
use Rattle.std.specs.Prelude.{slice_get, filter_map, ⊤, ◌||◌, if◌then◌else◌}
use Rattle.std.specs.List.{flat_map, list_any, AllByRecursion, IsDistinct}
use Rattle.std.proofs.lemmas.List.Elements.{filter_map-append}
use Rattle.std.proofs.lemmas.Bool.{eqb-true, eq-eqb}
use Rattle.ato_files.specs.declared.program.SourceFile.{SourceFile}
use Rattle.ato_files.specs.Blocks.{blocks_of}
use Rattle.ato_files.specs.Members.{Kind, signal, instance, param}
use Rattle.ato_instance_tree.specs.Kept.{member_of}
use Rattle.ato_instance_tree.specs.Members.{Member, pin, named, members}
use Rattle.ato_instance_tree.specs.Order.{Spot, leaf, made_at, instance_of, member_spots, spots, nodes}
use Rattle.ato_instance_tree.specs.TreeFaults.{Limits, is_leaf, faults_from}
use Rattle.ato_instance_tree.specs.Walk.{type_at}
use Rattle.ato_elab.specs.declared.built.Built.{Built}
use Rattle.ato_elab.specs.declared.marks.Marks.{Marks}
use Rattle.ato_elab.specs.declared.frames.Counts.{Counts}
use Rattle.ato_elab.specs.declared.frames.Frame.{Frame}
use Rattle.ato_ast.specs.declared.names.Named.{Named}
use Rattle.ato_instance_tree.specs.declared.tree.NodeKind.{NodeKind}
use Rattle.ato_elab.specs.Growing.{IsLeafKind, IsSoFar}
use Rattle.ato_elab.specs.Marks.{AreMarked, is_marked}
use Rattle.ato_elab.specs.Building.{at_member, path_of, types_of, left, remaining, IsFrame, AreFrames, made, limits_of, AreCounted, IsDone}
use Rattle.ato_elab.proofs.PlaceLemmas.{push_kept}

-- ---- open instances stay where nodes are put

pub frame_kept : (files : List SourceFile) (entry : ℕ) (done : List Spot) (s : Spot) (path around : List ℕ) (f : Frame) → IsFrame files entry done path around f → IsFrame files entry (done ++ s ∷ []) path around f
frame_kept files entry done s path around f was = record {
  spot = push_kept done s (made_at path) f.number was.spot;
  type = was.type;
  around = was.around;
  news = was.news;
  changes = was.changes;
}

pub frames_kept : (files : List SourceFile) (entry : ℕ) (done : List Spot) (s : Spot) (fs : List Frame) → AreFrames files entry done fs → AreFrames files entry (done ++ s ∷ []) fs
frames_kept files entry done s [] was = tt
frames_kept files entry done s (f ∷ fs) was = (frame_kept files entry done s (path_of (f ∷ fs)) (types_of fs) f was.0, frames_kept files entry done s fs was.1)

pub next_kept : (files : List SourceFile) (entry : ℕ) (done : List Spot) (path around : List ℕ) (f : Frame) (n : ℕ) → IsFrame files entry done path around f → IsFrame files entry done path around (at_member f n)
next_kept files entry done path around f n was = record { spot = was.spot; type = was.type; around = was.around; news = was.news; changes = was.changes }

-- ---- nodes that are no instances

leaf_spots : (files : List SourceFile) (entry d : ℕ) (path : List ℕ) (m : Member) → is_leaf m ≡ true → member_spots (spots files entry d) path m ≡ leaf path m ∷ []
leaf_spots files entry d path (pin text) e = refl
leaf_spots files entry d path (named n signal) e = refl
leaf_spots files entry d path (named n param) e = refl
leaf_spots files entry d path (named n (instance type)) e = absurd (true≢false (sym e))

made_leaf : (done : List Spot) (path : List ℕ) (m : Member) → made (done ++ leaf path m ∷ []) ≡ made done
made_leaf done path m = filter_map-append instance_of done (leaf path m ∷ []) ∙ append-nil (made done)

pub made_instance : (done : List Spot) (path : List ℕ) → made (done ++ made_at path ∷ []) ≡ made done ++ path ∷ []
made_instance done path = filter_map-append instance_of done (made_at path ∷ [])

module _ (files : List SourceFile) (names : List (List ℕ)) (entry : ℕ) (most : Counts) (done : List Spot) (f : Frame) (fs : List Frame) (built : Built) (marks : Marks) (counts : Counts)
    (was : IsDone files names entry most done (f ∷ fs) built marks counts) where
  -- one node more
  pub one_leaf : (m : Member) (ms : List Member) (n : ℕ) (new : Built) → left f ≡ m ∷ ms → left (at_member f n) ≡ ms → is_leaf m ≡ true
      → IsSoFar files names entry (done ++ leaf (path_of (f ∷ fs)) m ∷ []) (made done) new
      → IsDone files names entry most (done ++ leaf (path_of (f ∷ fs)) m ∷ []) (at_member f n ∷ fs) new marks counts
  one_leaf m ms n new here next is_leaf now =
      let path = path_of (f ∷ fs) in
      let s = leaf path m in
      let same = made_leaf done path m in
      let F = member_spots (spots files entry was.depth) path in
      let rest = remaining files entry (suc was.depth) fs in
      record {
        so_far = subst (λ (looked : List (List ℕ)). IsSoFar files names entry (done ++ s ∷ []) looked new) (sym same) now;
        depth = was.depth;
        levels = was.levels;
        parts = append_assoc done (s ∷ []) (flat_map F (left (at_member f n)) ++ rest)
            ∙ ap (λ (xs : List Spot). done ++ xs) (ap (λ (ms' : List Member). s ∷ (flat_map F ms' ++ rest)) next
            ∙ ap (λ (xs : List Spot). (xs ++ flat_map F ms) ++ rest) (sym (leaf_spots files entry was.depth path m is_leaf))
            ∙ ap (λ (ms' : List Member). flat_map F ms' ++ rest) (sym here))
            ∙ was.parts;
        frames = (next_kept files entry (done ++ s ∷ []) path (types_of fs) f n (frame_kept files entry done s path (types_of fs) f was.frames.0), frames_kept files entry done s fs was.frames.1);
        differ = was.differ;
        below = was.below;
        marked = was.marked;
        sound = ap (faults_from files entry (limits_of most) []) same ∙ was.sound;
        counted = subst (AreCounted files entry most counts) (sym same) was.counted;
      }

pub or_true : (a b : Bool) → b ≡ true → (a || b) ≡ true
or_true true b e = refl
or_true false b e = e

distinct_tail : (t : ℕ) (ts : List ℕ) → IsDistinct nat_eq (t ∷ ts) → IsDistinct nat_eq ts
unfolding IsDistinct
distinct_tail t ts d = d.1

none_among : (t : ℕ) (ts : List ℕ) → AllByRecursion (λ y. nat_eq t y ≡ false) ts → list_any (nat_eq t) ts ≡ false
none_among t [] all = refl
none_among t (u ∷ ts) all = ap (λ (b : Bool). b || list_any (nat_eq t) ts) all.0 ∙ none_among t ts all.1

not_among : (t : ℕ) (ts : List ℕ) → IsDistinct nat_eq (t ∷ ts) → list_any (nat_eq t) ts ≡ false
unfolding IsDistinct
not_among t ts d = none_among t ts d.0

-- one instance less is open
pub one_less : (files : List SourceFile) (names : List (List ℕ)) (entry : ℕ) (most : Counts) (done : List Spot) (f : Frame) (fs : List Frame) (built : Built) (marks new : Marks) (counts : Counts)
    → IsDone files names entry most done (f ∷ fs) built marks counts → left f ≡ [] → AreMarked (length (blocks_of files)) (types_of fs) new
    → IsDone files names entry most done fs built new counts
one_less files names entry most done f fs built marks new counts was none unmarked =
    let F = member_spots (spots files entry was.depth) (path_of (f ∷ fs)) in
    record {
      so_far = was.so_far;
      depth = suc was.depth;
      levels = let l = was.levels in omega arith;
      parts = ap (λ (ms : List Member). done ++ (flat_map F ms ++ remaining files entry (suc was.depth) fs)) (sym none) ∙ was.parts;
      frames = was.frames.1;
      differ = distinct_tail f.block (types_of fs) was.differ;
      below = λ q h. was.below q (or_true (nat_eq q f.block) (list_any (nat_eq q) (types_of fs)) h);
      marked = unmarked;
      sound = was.sound;
      counted = was.counted;
    }

-- ---- types that are marked

pub unmarked : (count t : ℕ) (ts : List ℕ) (old new : Marks) → AreMarked count (t ∷ ts) old → IsDistinct nat_eq (t ∷ ts) → t < count → length new.marked.items ≡ length old.marked.items
    → ((q : ℕ) → t < length old.marked.items → is_marked new q ≡ (if nat_eq q t then false else is_marked old q)) → AreMarked count ts new
unmarked count t ts old new was differ below long others = record {
  long = long ∙ was.long;
  each = λ q. others q (let l = was.long in omega arith) ∙ ap (λ (b : Bool). if nat_eq q t then false else b) (was.each q) ∙ by (nat_eq q t) (list_any (nat_eq q) ts) (free q);
}
  where
    by : (a b : Bool) → (a ≡ true → b ≡ false) → (if a then false else (a || b)) ≡ b
    by true b h = sym (h refl)
    by false b h = refl

    free : (q : ℕ) → nat_eq q t ≡ true → list_any (nat_eq q) ts ≡ false
    free q e = ap (λ (x : ℕ). list_any (nat_eq x) ts) (eqb-true q t e) ∙ not_among t ts differ

pub marked_more : (count t : ℕ) (ts : List ℕ) (old new : Marks) → AreMarked count ts old → t < count → length new.marked.items ≡ length old.marked.items
    → ((q : ℕ) → t < length old.marked.items → is_marked new q ≡ (if nat_eq q t then true else is_marked old q)) → AreMarked count (t ∷ ts) new
marked_more count t ts old new was below long others = record {
  long = long ∙ was.long;
  each = λ q. others q (let l = was.long in omega arith) ∙ ap (λ (b : Bool). if nat_eq q t then true else b) (was.each q) ∙ by (nat_eq q t) (list_any (nat_eq q) ts);
}
  where
    by : (a b : Bool) → (if a then true else b) ≡ (a || b)
    by true b = refl
    by false b = refl

pub is_below : (files : List SourceFile) (names : List (List ℕ)) (entry : ℕ) (most : Counts) (done : List Spot) (f : Frame) (fs : List Frame) (built : Built) (marks : Marks) (counts : Counts)
    → IsDone files names entry most done (f ∷ fs) built marks counts → f.block < length (blocks_of files)
is_below files names entry most done f fs built marks counts was = was.below f.block (ap (λ (b : Bool). b || list_any (nat_eq f.block) (types_of fs)) (eq-eqb f.block f.block refl))

pub spot_here : (files : List SourceFile) (names : List (List ℕ)) (entry : ℕ) (most : Counts) (done : List Spot) (f : Frame) (fs : List Frame) (built : Built) (marks : Marks) (counts : Counts)
    → IsDone files names entry most done (f ∷ fs) built marks counts → slice_get done f.number ≡ Some (made_at (path_of (f ∷ fs)))
spot_here files names entry most done f fs built marks counts was = was.frames.0.spot

-- signals and parameters are no instances
pub kind_is_leaf : (n : Named) (k : Kind) (kind : NodeKind) → IsLeafKind k kind → is_leaf (named n k) ≡ true
kind_is_leaf n signal kind h = refl
kind_is_leaf n param kind h = refl
kind_is_leaf n (instance type) kind h = absurd h
