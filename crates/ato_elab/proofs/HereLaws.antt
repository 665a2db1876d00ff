-- The next instance, as it is found and entered.
use Rattle.std.proofs.Common.{◌≡◌, ◌<◌, ℕ, suc, Bool, true, false, nat_eq, List, [], ◌∷◌, ◌++◌, map, Option, Some, None, refl, sym, ap, ◌∙◌, subst, length, append-nil}
use Rattle.std.specs.Prelude.{slice_get, option_to_list, filter_map, if◌then◌else◌}
use Rattle.std.specs.List.{flat_map, list_any}
use Rattle.std.proofs.lemmas.Option.{none-some}
use Rattle.std.proofs.lemmas.List.Elements.{filter_map-append}
use Rattle.ato_base.specs.declared.faults.Fault.{Fault}
use Rattle.ato_base.specs.declared.faults.FaultKind.TheVariants as kinds
use Rattle.ato_base.specs.declared.faults.Refusal.{Refusal}
use Rattle.ato_base.specs.declared.faults.Refusal.TheVariants as refusal
use Rattle.ato_base.specs.declared.name_table.Name.{Name}
use Rattle.ato_base.specs.declared.places.Place.TheVariants as place
use Rattle.ato_base.specs.declared.places.Span.{Span}
use Rattle.ato_ast.specs.declared.names.Named.{Named}
use Rattle.ato_files.specs.declared.program.SourceFile.{SourceFile}
use Rattle.ato_files.specs.Blocks.{blocks_of}
use Rattle.ato_files.specs.Lists.{first_of_all}
use Rattle.ato_instance_tree.specs.Order.{Spot, made_at, instance_of, nodes, instances}
use Rattle.ato_instance_tree.specs.TreeFaults.{Limits, fault_in, faults_from, instance_faults, made_faults, nest_faults, not_special, size_faults, too_large, tree_fault, types_around}
use Rattle.ato_instance_tree.specs.Walk.{made, replacements, type_at, walk}
use Rattle.ato_instance_tree.proofs.PushLaws.{faults_append}
use Rattle.ato_elab.specs.declared.changes.Change.{Change}
use Rattle.ato_elab.specs.declared.contents.Content.{Content}
use Rattle.ato_elab.specs.declared.entering.Lead.{Lead}
use Rattle.ato_elab.specs.declared.frames.Counts.{Counts}
use Rattle.ato_elab.specs.declared.frames.Frame.{Frame}
use Rattle.ato_elab.specs.declared.frames.Given.{Given}
use Rattle.ato_elab.specs.declared.frames.Growth.{Growth}
use Rattle.ato_elab.specs.declared.ways.Ways.{Ways}
use Rattle.ato_elab.specs.declared.built.Built.{Built}
use Rattle.ato_elab.specs.declared.marks.Marks.{Marks}
use Rattle.ato_elab.specs.Building.{path_of, types_of, next_of, IsFrame, made as made_of, limits_of, IsHere, IsBuilding, Refuses, RefusesTree, is_over}
use Rattle.ato_elab.specs.Changes.{listed, seen}
use Rattle.ato_elab.specs.Entering.{IsContent, IsLead, IsNewType, IsWithin, with_content}
use Rattle.ato_elab.specs.Growing.{IsSoFar}
use Rattle.ato_elab.specs.Marks.{AreMarked}
use Rattle.ato_elab.specs.Placing.{IsFresh}
use Rattle.ato_elab.specs.Settling.{LeadsTo, StopsAt}
use Rattle.ato_elab.specs.Waiting.{ends}
use Rattle.ato_elab.specs.Ways.{AreWays, kept}
use Rattle.ato_elab.proofs.EnterLaws.{entered, fresh_here, nest_free, next_here, nil_both, no_faults, opened}
use Rattle.ato_elab.proofs.LedLemmas.{frame_made, frame_replaces, led_type, news_below, over_is, waits_below}
use Rattle.ato_elab.proofs.RoomLemmas.{IsNext}

-- ---- first faults

pub refuses : (given : Given) (entry : ℕ) (r : Refusal) (f : Fault) → Refuses r f → tree_fault given.program.now.files (limits_of given.most) (Some entry) ≡ Some f → RefusesTree given entry r
refuses given entry (refusal.Fault g) f same e = e ∙ ap (λ (x : Fault). let o : Option Fault = Some x in o) (sym same)
refuses given entry refusal.NoMemory f same e = tt

first_front : (xs ys : List Fault) (f : Fault) → first_of_all xs ≡ Some f → first_of_all (xs ++ ys) ≡ Some f
first_front [] ys f e = absurd (none-some f e)
first_front (x ∷ xs) ys f e = e

first_behind : (xs ys : List Fault) (f : Fault) → xs ≡ [] → first_of_all ys ≡ Some f → first_of_all (xs ++ ys) ≡ Some f
first_behind xs ys f none e = ap (λ z. first_of_all (z ++ ys)) none ∙ e

pub one_if : (b : Bool) (f : Fault) → b ≡ true → (if b then f ∷ [] else []) ≡ f ∷ []
one_if b f e = ap (λ (x : Bool). if x then f ∷ [] else []) e

pub first_stands : (files : List SourceFile) (entry : ℕ) (most : Limits) (done rest : List Spot) (path : List ℕ) (f : Fault) → done ++ made_at path ∷ rest ≡ nodes files entry
    → faults_from files entry most [] (made_of done) ≡ [] → first_of_all (instance_faults files entry most (made_of done) path) ≡ Some f
    → tree_fault files most (Some entry) ≡ Some f
first_stands files entry most done rest path f parts sound first =
    ap (λ (ss : List Spot). first_of_all (faults_from files entry most [] (made_of ss))) (sym parts)
    ∙ ap (λ (ps : List (List ℕ)). first_of_all (faults_from files entry most [] ps)) (filter_map-append instance_of done (made_at path ∷ rest))
    ∙ ap first_of_all (faults_append files entry most [] (made_of done) (path ∷ made_of rest))
    ∙ first_behind (faults_from files entry most [] (made_of done)) (faults_from files entry most (made_of done) (path ∷ made_of rest)) f sound
    (first_front (instance_faults files entry most (made_of done) path) _ f first)

-- ---- the faults at a member

module _ (files : List SourceFile) (entry : ℕ) (done : List Spot) (path outer : List ℕ) (f : Frame) (is : IsFrame files entry done path outer f)
    (most : Limits) (before : List (List ℕ)) (name from : ℕ) (new : Named) (new_is : kept f.ways.news name ≡ Some (from, new)) where
  faults_made : instance_faults files entry most before (name ∷ path) ≡ made_faults files entry most before name path (from, new)
  faults_made =
      ap (λ (o : Option (ℕ × Named)). flat_map (made_faults files entry most before name path) (option_to_list o)) (sym (frame_made files entry done path outer f is name) ∙ new_is)
      ∙ append-nil (made_faults files entry most before name path (from, new))

  pub first_stray : (at : Span) → StopsAt files from (ends (map seen (listed f.ways.changes name))) at
      → first_of_all (instance_faults files entry most before (name ∷ path)) ≡ Some (fault_in (name ∷ path) kinds.NotSpecial (place.Source at))
  first_stray at stops = ap first_of_all faults_made
      ∙ first_front (not_special files (name ∷ path) from (replacements files (name ∷ path) (walk files entry path)) ++ nest_faults files entry name path new) _ (fault_in (name ∷ path) kinds.NotSpecial (place.Source at))
      (first_front (not_special files (name ∷ path) from (replacements files (name ∷ path) (walk files entry path))) _ (fault_in (name ∷ path) kinds.NotSpecial (place.Source at))
      (ap (λ rs. first_of_all (not_special files (name ∷ path) from rs)) (frame_replaces files entry done path outer f is name) ∙ stops (name ∷ path)))

  none_stray : (block : ℕ) → LeadsTo files from (ends (map seen (listed f.ways.changes name))) block
      → not_special files (name ∷ path) from (replacements files (name ∷ path) (walk files entry path)) ≡ []
  none_stray block leads = ap (not_special files (name ∷ path) from) (frame_replaces files entry done path outer f is name) ∙ (leads new (name ∷ path)).1

  pub first_nest : (block : ℕ) → LeadsTo files from (ends (map seen (listed f.ways.changes name))) block → type_at files entry (name ∷ path) ≡ Some block
      → list_any (nat_eq block) (f.block ∷ outer) ≡ true → first_of_all (instance_faults files entry most before (name ∷ path)) ≡ Some (fault_in (name ∷ path) kinds.NestLoop (place.Source new.at))
  first_nest block leads type there =
      let g = fault_in (name ∷ path) kinds.NestLoop (place.Source new.at) in
      let F = λ (t : ℕ). if list_any (nat_eq t) (types_around files entry path) then g ∷ [] else [] in
      let nests : nest_faults files entry name path new ≡ g ∷ [] = ap (λ (o : Option ℕ). flat_map F (option_to_list o)) type ∙ append-nil (F block)
      ∙ one_if (list_any (nat_eq block) (types_around files entry path)) g (ap (list_any (nat_eq block)) is.around ∙ there) in
      ap first_of_all faults_made
      ∙ first_front (not_special files (name ∷ path) from (replacements files (name ∷ path) (walk files entry path)) ++ nest_faults files entry name path new) _ g
      (first_behind (not_special files (name ∷ path) from (replacements files (name ∷ path) (walk files entry path))) _ g (none_stray block leads) (ap first_of_all nests))

  pub first_size : (block : ℕ) → LeadsTo files from (ends (map seen (listed f.ways.changes name))) block → type_at files entry (name ∷ path) ≡ Some block
      → list_any (nat_eq block) (f.block ∷ outer) ≡ false → too_large files entry most (before ++ (name ∷ path) ∷ []) ≡ true
      → first_of_all (instance_faults files entry most before (name ∷ path)) ≡ Some (fault_in (name ∷ path) kinds.TreeTooLarge (place.Source new.at))
  first_size block leads type free many =
      let g = fault_in (name ∷ path) kinds.TreeTooLarge (place.Source new.at) in
      ap first_of_all faults_made
      ∙ first_behind (not_special files (name ∷ path) from (replacements files (name ∷ path) (walk files entry path)) ++ nest_faults files entry name path new) _ g
      (nil_both (not_special files (name ∷ path) from (replacements files (name ∷ path) (walk files entry path))) _ (none_stray block leads) (nest_free files entry name block path (f.block ∷ outer) new type is.around free))
      (ap first_of_all (one_if (too_large files entry most (before ++ (name ∷ path) ∷ [])) g many))

-- ---- the next instance

module _ (given : Given) (entry : ℕ) (fs : List Frame) (f : Frame) (name : Name) (g : Growth) (at : IsHere given entry fs f name g) where
  stands_here : (x : Fault)
      → first_of_all (instance_faults given.program.now.files entry (limits_of given.most) (made_of at.building.done) (name.0 ∷ path_of (f ∷ fs))) ≡ Some x
      → tree_fault given.program.now.files (limits_of given.most) (Some entry) ≡ Some x
  stands_here x first =
      let p = given.program.now in
      let d = at.building.done in
      let next = next_here p.files p.names entry given.most d f fs g.built g.marks g.counts at.building.is name at.called at.type at.same at.here in
      first_stands p.files entry (limits_of given.most) d _ (name.0 ∷ path_of (f ∷ fs)) x next.parts at.building.is.sound first

  pub stray_here : (from : ℕ) (new : Named) (span : Span) (r : Refusal) → kept f.ways.news name.0 ≡ Some (from, new)
      → StopsAt given.program.now.files from (ends (map seen (listed f.ways.changes name.0))) span
      → Refuses r (fault_in (name.0 ∷ path_of (f ∷ fs)) kinds.NotSpecial (place.Source span)) → RefusesTree given entry r
  stray_here from new span r new_is stops same =
      let x = fault_in (name.0 ∷ path_of (f ∷ fs)) kinds.NotSpecial (place.Source span) in
      refuses given entry r x same (stands_here x
      (first_stray given.program.now.files entry at.building.done (path_of (f ∷ fs)) (types_of fs) f at.building.is.frames.0 (limits_of given.most) (made_of at.building.done) name.0 from new new_is span stops))

  module _ (lead : Lead) (led : IsLead given f name lead) where
    leads_here : LeadsTo given.program.now.files lead.from (ends (map seen (listed f.ways.changes name.0))) lead.block
    leads_here = subst (λ (cs : List Change). LeadsTo given.program.now.files lead.from (ends (map seen cs)) lead.block) led.list_is led.leads

    pub type_here : type_at given.program.now.files entry (name.0 ∷ path_of (f ∷ fs)) ≡ Some lead.block
    type_here = led_type given.program.now.files entry at.building.done (path_of (f ∷ fs)) (types_of fs) f at.building.is.frames.0 name.0 lead.from lead.block lead.new led.new_is leads_here

    pub nest_here : (r : Refusal) → list_any (nat_eq lead.block) (types_of (f ∷ fs)) ≡ true
        → Refuses r (fault_in (name.0 ∷ path_of (f ∷ fs)) kinds.NestLoop (place.Source lead.new.at)) → RefusesTree given entry r
    nest_here r there same =
        let x = fault_in (name.0 ∷ path_of (f ∷ fs)) kinds.NestLoop (place.Source lead.new.at) in
        refuses given entry r x same (stands_here x
        (first_nest given.program.now.files entry at.building.done (path_of (f ∷ fs)) (types_of fs) f at.building.is.frames.0 (limits_of given.most) (made_of at.building.done) name.0 lead.from lead.new led.new_is
        lead.block leads_here type_here there))

    many_here : (content : Content) → IsContent given.program.now.files lead.block content
        → too_large given.program.now.files entry (limits_of given.most) (made_of at.building.done ++ (name.0 ∷ path_of (f ∷ fs)) ∷ []) ≡ is_over given.most (with_content g.counts content)
    many_here content holds = over_is given.program.now.files entry lead.block given.most g.counts (made_of at.building.done) (name.0 ∷ path_of (f ∷ fs)) content at.building.is.counted type_here holds

    pub size_here : (content : Content) (r : Refusal) → IsNewType given.program.now.files (types_of (f ∷ fs)) lead.block → IsContent given.program.now.files lead.block content
        → is_over given.most (with_content g.counts content) ≡ true
        → Refuses r (fault_in (name.0 ∷ path_of (f ∷ fs)) kinds.TreeTooLarge (place.Source lead.new.at)) → RefusesTree given entry r
    size_here content r fresh holds over same =
        let x = fault_in (name.0 ∷ path_of (f ∷ fs)) kinds.TreeTooLarge (place.Source lead.new.at) in
        refuses given entry r x same (stands_here x
        (first_size given.program.now.files entry at.building.done (path_of (f ∷ fs)) (types_of fs) f at.building.is.frames.0 (limits_of given.most) (made_of at.building.done) name.0 lead.from lead.new led.new_is
        lead.block leads_here type_here fresh.free (many_here content holds ∙ over)))

    pub entered_here : (content : Content) (number : ℕ) (ways : Ways) (new : Built) (marked : Marks) (sum : Counts)
        → IsNewType given.program.now.files (types_of (f ∷ fs)) lead.block → IsContent given.program.now.files lead.block content → IsWithin given.most g.counts content sum
        → number ≡ length at.building.done
        → IsSoFar given.program.now.files given.program.now.names entry (at.building.done ++ made_at (name.0 ∷ path_of (f ∷ fs)) ∷ []) (made_of at.building.done ++ (name.0 ∷ path_of (f ∷ fs)) ∷ []) new
        → AreWays given.program.now.files content.statements lead.list ways → AreMarked (length (blocks_of given.program.now.files)) (lead.block ∷ types_of (f ∷ fs)) marked
        → IsBuilding given entry (opened number (Some name) lead.block content ways ∷ next_of f ∷ fs) (record { built = new; marks = marked; counts = sum })
    entered_here content number ways new marked sum fresh holds within last now ways_are marks_are =
        let p = given.program.now in
        let d = at.building.done in
        let frame = at.building.is.frames.0 in
        let path = name.0 ∷ path_of (f ∷ fs) in
        let few : too_large p.files entry (limits_of given.most) (made_of d ++ path ∷ []) ≡ false = many_here content holds ∙ ap (is_over given.most) (sym within.sum) ∙ within.few in
        record {
          given_is = at.building.given_is;
          done = d ++ made_at path ∷ [];
          is = entered p.files p.names entry given.most d f fs g.built g.marks g.counts at.building.is name at.called at.type at.same at.here
              lead.block number content ways new marked sum type_here fresh holds within last now
              (news_below p.files lead.block content.statements lead.list ways holds.statements ways_are)
              (waits_below p.files entry name.0 lead.block (path_of (f ∷ fs)) f content.statements lead.list ways type_here holds.statements frame.changes led.list_is ways_are)
              marks_are
              (no_faults p.files entry d (path_of (f ∷ fs)) (types_of fs) f frame (limits_of given.most) (made_of d) name.0 lead.from lead.block lead.new led.new_is leads_here type_here fresh.free few);
        }

    pub fresh_spot : IsFresh at.building.done (made_at (name.0 ∷ path_of (f ∷ fs)))
    fresh_spot = let p = given.program.now in
        fresh_here p.files p.names entry given.most at.building.done f fs g.built g.marks g.counts at.building.is name at.called at.type at.same at.here
