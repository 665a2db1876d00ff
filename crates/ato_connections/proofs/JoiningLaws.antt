-- What the steps of joining tell of a project.
use Rattle.std.proofs.Common.{◌≡◌, ◌<◌, ℕ, All, List, length, Option, Some, None, refl, ap, sym, subst, ◌∙◌}
use Rattle.std.specs.Prelude.{MatchOption}
use Rattle.std.specs.Option.{option_map}
use Rattle.ato_base.specs.declared.faults.Fault.{Fault}
use Rattle.ato_base.specs.declared.faults.FaultKind.TheVariants as kinds
use Rattle.ato_base.specs.declared.faults.Refusal.{Refusal}
use Rattle.ato_base.specs.declared.faults.Refusal.TheVariants as refusal
use Rattle.ato_base.specs.declared.places.Place.TheVariants as place
use Rattle.ato_files.specs.declared.program.Program.{Program}
use Rattle.ato_instance_tree.specs.declared.tree.Late.{Late}
use Rattle.ato_instance_tree.specs.declared.tree.Node.{Node}
use Rattle.ato_instance_tree.specs.declared.tree.Tree.{Tree}
use Rattle.ato_instance_tree.specs.Elaborated.{IsElaborated, IsLoaded}
use Rattle.ato_instance_tree.specs.TreeFaults.{Limits, fault_in}
use Rattle.ato_instance_tree.specs.Trees.{tree_said}
use Rattle.ato_instance_tree.proofs.LoadedLaws.{names_differ}
use Rattle.ato_links.specs.declared.classes.Classes.{Classes}
use Rattle.ato_links.specs.Linked.{IsLinked, IsTreeOf, IsUnlinked, fault_stands}
use Rattle.ato_links.specs.Links.{Electrical}
use Rattle.ato_nets.specs.ClassNumbers.{AreClassNumbers}
use Rattle.ato_connections.specs.declared.given.Given.{Given}
use Rattle.ato_connections.specs.declared.joining.Clash.{Clash}
use Rattle.ato_connections.specs.declared.links.Links.{Links}
use Rattle.ato_connections.specs.Given.{kept, library_in}
use Rattle.ato_connections.specs.Members.{AreMembers}
use Rattle.ato_connections.specs.Outcome.{ClashesFirst, IsOf, JoinsFirst, Refuses, RefusesClash, sound_before}
use Rattle.ato_connections.proofs.TreeOutcome.{clashed, late, linked, within}

-- ---- what is known

electrical : Option ℕ → Option ℕ → Electrical
electrical type line = record { type = type; line = line }

same_library : (a b : Electrical) → a.type ≡ b.type → a.line ≡ b.line → a ≡ b
unfolding electrical
same_library a b e f = ap (λ x. electrical x a.line) e ∙ ap (electrical b.type) f

pub given_is : (g : Given) (tree : Tree) → IsLoaded g.program.now → g.nodes.now ≡ tree.nodes → AreMembers tree.nodes g.members.now
    → g.library.electrical ≡ (library_in g).type
    → option_map (λ n. n.0) g.library.line ≡ (library_in g).line → IsOf g tree
given_is g tree loaded nodes members type line = record {
  given = record {
    blocks = loaded.is.blocks;
    members = subst (λ (ns : List Node). AreMembers ns g.members.now) (sym nodes) members;
    library = same_library (kept g.library) (library_in g) type line;
  };
  nodes = nodes;
}

-- ---- what is told

refused : (program : Program) (entry : ℕ) (f : Fault) (r : Refusal) → fault_stands program entry ≡ Some f → Refuses f r → IsUnlinked program entry r
refused program entry f (refusal.Fault g) e same = e ∙ ap Some (sym same)
refused program entry f refusal.NoMemory e same = tt

module _ (most : Limits) (g : Given) (name : List ℕ) (tree : Tree) (loaded : IsLoaded g.program.now) (of : IsOf g tree)
    (is : IsElaborated most g.program.now name tree) where
  -- a clash before the first fault of paths
  pub clash_told : (count number : ℕ) (c : Clash) (r : Refusal) → count ≡ sound_before tree.occurrences tree.first → number < count
      → ClashesFirst g tree number c → RefusesClash g c r
      → IsUnlinked g.program.now is.entry r
  clash_told count number c r same before clash tells =
      let h = clashed most g.program.now name tree number c loaded is (subst (λ n. number < n) same before) clash in
      refused g.program.now is.entry (fault_in h.path kinds.CannotConnect (place.Source c.at)) r h.fault
      (tells g.program.now.files is.entry h.path (names_differ g.program.now loaded) (ap tree_said of.nodes ∙ is.is.told) h.instance)

  -- the first fault of paths
  pub late_told : (count : ℕ) (ls : Links) (l : Late) (r : Refusal) → count ≡ sound_before tree.occurrences tree.first → tree.first ≡ Some l
      → JoinsFirst g tree count ls → Refuses l.fault r
      → IsUnlinked g.program.now is.entry r
  late_told count ls l r same first are tells = refused g.program.now is.entry l.fault r
      (late most g.program.now name tree ls l loaded is first (subst (λ n. JoinsFirst g tree n ls) same are)) tells

  -- the classes
  pub classes_told : (count : ℕ) (ls : Links) (classes : Classes) → count ≡ sound_before tree.occurrences tree.first → tree.first ≡ None
      → JoinsFirst g tree count ls
      → AreClassNumbers (length tree.nodes) ls.joins classes.of → IsLinked g.program.now is.entry classes
  classes_told count ls classes same none are numbers = linked most g.program.now name tree ls classes loaded is none
      (subst (λ n. JoinsFirst g tree n ls) same are) numbers

-- ---- what the first clash tells

-- The first clash of so many occurrences, or none.
abbrev pub FirstClash : Given → Tree → ℕ → Links → Option Clash → Type 0
FirstClash g tree count ls found = MatchOption found (JoinsFirst g tree count ls) (λ c. (number : ℕ) × (number < count) × ClashesFirst g tree number c)

-- where there is none
joins_all : (g : Given) (tree : Tree) (count : ℕ) (ls : Links) (found : Option Clash) → ((c : Clash) → found ≡ Some c → ⊥) → FirstClash g tree count ls found
    → JoinsFirst g tree count ls
joins_all g tree count ls None none h = h
joins_all g tree count ls (Some c) none h = absurd (none c refl)

no_first : (o : Option Late) → ((l : Late) → o ≡ Some l → ⊥) → o ≡ None
no_first None none = refl
no_first (Some l) none = absurd (none l refl)

module _ (g : Given) (tree : Tree) (loaded : IsLoaded g.program.now) (of : IsOf g tree) (count : ℕ) (ls : Links) (found : Option Clash)
    (counted : count ≡ sound_before tree.occurrences tree.first) (h : FirstClash g tree count ls found) where
  pub clash_refused : (c : Clash) (r : Refusal) → found ≡ Some c → RefusesClash g c r
      → (most : Limits) (name : List ℕ) (is : IsElaborated most g.program.now name tree) → IsUnlinked g.program.now is.entry r
  clash_refused c r e tells most name is =
      let it = subst (λ (o : Option Clash). FirstClash g tree count ls o) e h in
      clash_told most g name tree loaded of is count it.0 c r counted it.1 it.2 tells

  pub late_refused : (l : Late) (r : Refusal) → ((c : Clash) → found ≡ Some c → ⊥) → tree.first ≡ Some l → Refuses l.fault r
      → (most : Limits) (name : List ℕ) (is : IsElaborated most g.program.now name tree)
      → IsUnlinked g.program.now is.entry r
  late_refused l r none first tells most name is = late_told most g name tree loaded of is count ls l r counted first
      (joins_all g tree count ls found none h) tells

  pub classes_linked : (classes : Classes) (size : ℕ) → size ≡ length tree.nodes → ((c : Clash) → found ≡ Some c → ⊥) → ((l : Late) → tree.first ≡ Some l → ⊥)
      → AreClassNumbers size ls.joins classes.of → (most : Limits) (name : List ℕ) (is : IsElaborated most g.program.now name tree)
      → IsLinked g.program.now is.entry classes
  classes_linked classes size same none no_late numbers most name is = classes_told most g name tree loaded of is count ls classes counted
      (no_first tree.first no_late)
      (joins_all g tree count ls found none h) (subst (λ n. AreClassNumbers n ls.joins classes.of) same numbers)

  pub joins_within : (size : ℕ) → size ≡ length tree.nodes → ((c : Clash) → found ≡ Some c → ⊥) → IsTreeOf g.program.now tree
      → All (λ (join : ℕ × ℕ). (join.0 < size) × (join.1 < size)) ls.joins
  joins_within size same none tree_of = subst (λ n. All (λ (join : ℕ × ℕ). (join.0 < n) × (join.1 < n)) ls.joins) (sym same)
      (within tree_of.most g.program.now tree_of.name tree count ls loaded tree_of.is (joins_all g tree count ls found none h))
