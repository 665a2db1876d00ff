-- What one more open instance makes of what is built.
use Rattle.std.proofs.Common.{◌≡◌, ◌<◌, ◌≤◌, ℕ, zero, suc, ◌+◌, Bool, true, false, true≢false, nat_eq, List, [], ◌∷◌, ◌++◌, map, Option, Some, None, refl, sym, ap, ◌∙◌, subst, length, append_assoc, append-nil, arith, inl, inr}
use Rattle.std.specs.Prelude.{◌||◌, ◌⊎◌, slice_get, option_to_list, if◌then◌else◌}
use Rattle.std.specs.List.{flat_map, list_any, AllByRecursion, IsDistinct}
use Rattle.std.proofs.lemmas.Bool.{eqb-true}
use Rattle.ato_base.specs.declared.faults.Fault.{Fault}
use Rattle.ato_base.specs.declared.faults.FaultKind.TheVariants as kinds
use Rattle.ato_base.specs.declared.name_table.Name.{Name}
use Rattle.ato_base.specs.declared.places.Place.TheVariants as place
use Rattle.ato_ast.specs.declared.names.Named.{Named}
use Rattle.ato_files.specs.declared.program.SourceFile.{SourceFile}
use Rattle.ato_files.specs.Blocks.{blocks_of}
use Rattle.ato_files.specs.Members.{instance}
use Rattle.ato_files.proofs.PushLemmas.{slice_get_push_last}
use Rattle.ato_instance_tree.specs.declared.type_members.Member as declared
use Rattle.ato_instance_tree.specs.Kept.{member_of}
use Rattle.ato_instance_tree.specs.Members.{Member, named, members}
use Rattle.ato_instance_tree.specs.Order.{Spot, made_at, member_spots, spots, nodes}
use Rattle.ato_instance_tree.specs.TreeFaults.{Limits, fault_in, faults_from, instance_faults, made_faults, nest_faults, not_special, size_faults, too_large, types_around}
use Rattle.ato_instance_tree.specs.Types.{type_stmts}
use Rattle.ato_instance_tree.specs.Walk.{made, replacements, type_at, walk}
use Rattle.ato_instance_tree.proofs.PushLaws.{faults_push}
use Rattle.ato_elab.specs.declared.built.Built.{Built}
use Rattle.ato_elab.specs.declared.contents.Content.{Content}
use Rattle.ato_elab.specs.declared.frames.Counts.{Counts}
use Rattle.ato_elab.specs.declared.frames.Frame.{Frame}
use Rattle.ato_elab.specs.declared.marks.Marks.{Marks}
use Rattle.ato_elab.specs.declared.ways.Ways.{Ways}
use Rattle.ato_elab.specs.Building.{path_of, types_of, left, next_of, remaining, IsFrame, AreFrames, made as made_of, limits_of, AreCounted, IsDone, is_over}
use Rattle.ato_elab.specs.Changes.{AreChanges, listed, seen}
use Rattle.ato_elab.specs.Entering.{IsContent, IsNewType, IsWithin, with_content}
use Rattle.ato_elab.specs.Growing.{IsSoFar}
use Rattle.ato_elab.specs.Marks.{AreMarked}
use Rattle.ato_elab.specs.Placing.{IsFresh}
use Rattle.ato_elab.specs.Settling.{LeadsTo}
use Rattle.ato_elab.specs.Waiting.{ends, waiting}
use Rattle.ato_elab.specs.Ways.{AreNews, kept}
use Rattle.ato_elab.proofs.FrameLaws.{frame_kept, frames_kept, next_kept, made_instance}
use Rattle.ato_elab.proofs.LedLemmas.{counted_more, frame_made, frame_replaces, over_is}
use Rattle.ato_elab.proofs.RoomLemmas.{IsNext, next_at, next_fresh}

-- ---- types that differ

or_falses : (a b : Bool) → (a || b) ≡ false → (a ≡ false) × (b ≡ false)
or_falses true b h = absurd (true≢false h)
or_falses false b h = (refl, h)

each_differs : (t : ℕ) (ts : List ℕ) → list_any (nat_eq t) ts ≡ false → AllByRecursion (λ y. nat_eq t y ≡ false) ts
each_differs t [] h = tt
each_differs t (u ∷ ts) h = let k = or_falses (nat_eq t u) (list_any (nat_eq t) ts) h in (k.0, each_differs t ts k.1)

pub more_distinct : (t : ℕ) (ts : List ℕ) → list_any (nat_eq t) ts ≡ false → IsDistinct nat_eq ts → IsDistinct nat_eq (t ∷ ts)
unfolding IsDistinct
more_distinct t ts h d = (each_differs t ts h, d)

or_cases : (a b : Bool) → (a || b) ≡ true → (a ≡ true) ⊎ (b ≡ true)
or_cases true b h = inl refl
or_cases false b h = inr h

pub more_below : (t bound : ℕ) (ts : List ℕ) → t < bound → ((q : ℕ) → list_any (nat_eq q) ts ≡ true → q < bound) → (q : ℕ) → list_any (nat_eq q) (t ∷ ts) ≡ true → q < bound
more_below t bound ts h more q k = elim (or_cases (nat_eq q t) (list_any (nat_eq q) ts) k) [ inl e ↦ subst (λ z. z < bound) (sym (eqb-true q t e)) h | inr e ↦ more q e ]

-- ---- no fault

pub nil_both : {X : Type 0} (xs ys : List X) → xs ≡ [] → ys ≡ [] → xs ++ ys ≡ []
nil_both xs ys e h = ap (λ z. z ++ ys) e ∙ h

pub none_if : {X : Type 0} (b : Bool) (xs : List X) → b ≡ false → (if b then xs else []) ≡ []
none_if true xs e = absurd (true≢false e)
none_if false xs e = refl

pub nest_free : (files : List SourceFile) (entry name block : ℕ) (up types : List ℕ) (new : Named) → type_at files entry (name ∷ up) ≡ Some block → types_around files entry up ≡ types
    → list_any (nat_eq block) types ≡ false → nest_faults files entry name up new ≡ []
nest_free files entry name block up types new type around free =
    let F = λ (t : ℕ). if list_any (nat_eq t) (types_around files entry up) then fault_in (name ∷ up) kinds.NestLoop (place.Source new.at) ∷ [] else [] in
    ap (λ (o : Option ℕ). flat_map F (option_to_list o)) type
    ∙ append-nil (F block)
    ∙ none_if (list_any (nat_eq block) (types_around files entry up)) (fault_in (name ∷ up) kinds.NestLoop (place.Source new.at) ∷ []) (ap (list_any (nat_eq block)) around ∙ free)

module _ (files : List SourceFile) (entry : ℕ) (done : List Spot) (path outer : List ℕ) (f : Frame) (is : IsFrame files entry done path outer f) where
  pub no_faults : (most : Limits) (before : List (List ℕ)) (name from block : ℕ) (new : Named) → kept f.ways.news name ≡ Some (from, new)
      → LeadsTo files from (ends (map seen (listed f.ways.changes name))) block → type_at files entry (name ∷ path) ≡ Some block
      → list_any (nat_eq block) (f.block ∷ outer) ≡ false → too_large files entry most (before ++ (name ∷ path) ∷ []) ≡ false
      → instance_faults files entry most before (name ∷ path) ≡ []
  no_faults most before name from block new new_is leads type free few =
      let G = made_faults files entry most before name path in
      ap (λ (o : Option (ℕ × Named)). flat_map G (option_to_list o)) (sym (frame_made files entry done path outer f is name) ∙ new_is)
      ∙ append-nil (G (from, new))
      ∙ nil_both (not_special files (name ∷ path) from (replacements files (name ∷ path) (walk files entry path)) ++ nest_faults files entry name path new) _
      (nil_both (not_special files (name ∷ path) from (replacements files (name ∷ path) (walk files entry path))) _
      (ap (not_special files (name ∷ path) from) (frame_replaces files entry done path outer f is name) ∙ (leads new (name ∷ path)).1)
      (nest_free files entry name block path (f.block ∷ outer) new type is.around free))
      (none_if (too_large files entry most (before ++ (name ∷ path) ∷ [])) (fault_in (name ∷ path) kinds.TreeTooLarge (place.Source new.at) ∷ []) few)

-- ---- one more instance

-- a frame of this name that is just opened
abbrev pub opened : ℕ → Option Name → ℕ → Content → Ways → Frame
opened number name block content ways = record { number = number; name = name; block = block; members = content.members; next = 0; ways = ways }

module _ (files : List SourceFile) (names : List (List ℕ)) (entry : ℕ) (most : Counts) (done : List Spot) (f : Frame) (fs : List Frame) (built : Built) (marks : Marks) (counts : Counts)
    (was : IsDone files names entry most done (f ∷ fs) built marks counts) (name : Name) (called type : Named) (same : called.name ≡ name)
    (here : left f ≡ named called (instance type) ∷ left (next_of f)) where
  pub next_here : IsNext files entry done f fs (name.0 ∷ path_of (f ∷ fs))
  next_here = subst (λ (n : Name). IsNext files entry done f fs (n.0 ∷ path_of (f ∷ fs))) same (next_at files names entry most done f fs built marks counts was called type here)

  pub fresh_here : IsFresh done (made_at (name.0 ∷ path_of (f ∷ fs)))
  fresh_here = next_fresh files entry done _ (name.0 ∷ path_of (f ∷ fs)) next_here.parts

  pub entered : (block number : ℕ) (content : Content) (ways : Ways) (new : Built) (marked : Marks) (sum : Counts)
      → type_at files entry (name.0 ∷ path_of (f ∷ fs)) ≡ Some block → IsNewType files (types_of (f ∷ fs)) block → IsContent files block content → IsWithin most counts content sum
      → number ≡ length done → IsSoFar files names entry (done ++ made_at (name.0 ∷ path_of (f ∷ fs)) ∷ []) (made_of done ++ (name.0 ∷ path_of (f ∷ fs)) ∷ []) new
      → AreNews files (type_stmts files block) ways.news → AreChanges (waiting files entry (name.0 ∷ path_of (f ∷ fs))) ways.changes
      → AreMarked (length (blocks_of files)) (block ∷ types_of (f ∷ fs)) marked
      → instance_faults files entry (limits_of most) (made_of done) (name.0 ∷ path_of (f ∷ fs)) ≡ []
      → IsDone files names entry most (done ++ made_at (name.0 ∷ path_of (f ∷ fs)) ∷ []) (opened number (Some name) block content ways ∷ next_of f ∷ fs) new marked sum
  entered block number content ways new marked sum typed fresh holds within last now news changes marks_are none =
      let path = name.0 ∷ path_of (f ∷ fs) in
      let s = made_at path in
      let b = opened number (Some name) block content ways in
      let looked = made_instance done path in
      let next = next_here in
      record {
        so_far = subst (λ (l : List (List ℕ)). IsSoFar files names entry (done ++ s ∷ []) l new) (sym looked) now;
        depth = next.depth;
        levels = let l = next.levels in omega arith;
        parts = append_assoc done (s ∷ []) (remaining files entry next.depth (b ∷ next_of f ∷ fs))
            ∙ ap (λ (ms : List Member). done ++ s ∷ (flat_map (member_spots (spots files entry next.depth) path) ms ++ remaining files entry (suc next.depth) (next_of f ∷ fs)))
            (holds.members ∙ ap (members files) (sym typed))
            ∙ next.parts;
        frames = (
          record {
            spot = slice_get_push_last done s number (sym last);
            type = typed;
            around = ap (λ (o : Option ℕ). option_to_list o ++ types_around files entry (path_of (f ∷ fs))) typed ∙ ap (λ (ts : List ℕ). block ∷ ts) was.frames.0.around;
            news = news;
            changes = changes;
          },
          (
            next_kept files entry (done ++ s ∷ []) (path_of (f ∷ fs)) (types_of fs) f (f.next + 1) (frame_kept files entry done s (path_of (f ∷ fs)) (types_of fs) f was.frames.0),
            frames_kept files entry done s fs was.frames.1,
          ),
        );
        differ = more_distinct block (types_of (f ∷ fs)) fresh.free was.differ;
        below = more_below block (length (blocks_of files)) (types_of (f ∷ fs)) fresh.below was.below;
        marked = marks_are;
        sound = ap (faults_from files entry (limits_of most) []) looked ∙ faults_push files entry (limits_of most) [] (made_of done) path
            ∙ nil_both (faults_from files entry (limits_of most) [] (made_of done)) _ was.sound none;
        counted = subst (AreCounted files entry most sum) (sym looked) (counted_more files entry block most counts sum (made_of done) path content was.counted typed holds within);
      }
