-- How paths lead from node to node.
use Rattle.std.proofs.Common.{◌≡◌, ◌<◌, ◌≤◌, ℕ, suc, ◌+◌, Bool, true, false, cond, List, [], ◌∷◌, Option, Some, None, refl, sym, ap, ◌∙◌, length, drop, get_or, drop-cons, add-one, arith}
use Rattle.std.specs.Prelude.{slice_get, position, IfSome}
use Rattle.std.specs.List.{position_from}
use Rattle.std.specs.Option.{option_and_then}
use Rattle.ato_files.proofs.PositionLemmas.{position_is}
use Rattle.ato_base.specs.declared.places.Span.{Span}
use Rattle.ato_base.specs.declared.tokens.TokenKind.{TokenKind}
use Rattle.ato_ast.specs.declared.names.Named.{Named}
use Rattle.ato_ast.specs.declared.paths.Path.{Path}
use Rattle.ato_files.specs.declared.program.SourceFile.{SourceFile}
use Rattle.ato_files.specs.declared.program.Program.{Program}
use Rattle.ato_instance_tree.specs.declared.tree.Node.{Node}
use Rattle.ato_instance_tree.specs.declared.tree.Occurrence.{Occurrence}
use Rattle.ato_instance_tree.specs.declared.tree.Tree.{Tree}
use Rattle.ato_instance_tree.specs.Members.{source_text}
use Rattle.ato_instance_tree.specs.Paths.{number_place}
use Rattle.ato_instance_tree.specs.Targets.{is_called, child, named_child, led, led_from, pin_at, pinned, target_of}

rest_at : {X : Type 0} (xs : List X) (i : ℕ) (d : X) → i < length xs → drop i xs ≡ get_or xs i d ∷ drop (i + 1) xs
rest_at xs i d h = drop-cons xs i d h ∙ ap (λ n. get_or xs i d ∷ drop n xs) (sym (add-one i))

-- one name further
led_on : (names : List (List ℕ)) (ns : List Node) (steps : List Named) (i at : ℕ) (d : Named) (o : Option ℕ) → i < length steps → o ≡ named_child names ns at (get_or steps i d).name.0
    → led names ns (drop i steps) at ≡ option_and_then (led names ns (drop (i + 1) steps)) o
led_on names ns steps i at d o h next = ap (λ ss. led names ns ss at) (rest_at steps i d h) ∙ ap (option_and_then (led names ns (drop (i + 1) steps))) (sym next)

no_name : Named
no_name = record { name = record { 0 = 0 }; at = record { file = record { 0 = 0 }; start = 0; end = 0 } }

module _ (names : List (List ℕ)) (ns : List Node) (steps : List Named) (i at : ℕ) where
  abbrev called : Option ℕ
  called = named_child names ns at (get_or steps i (record { name = record { 0 = 0 }; at = record { file = record { 0 = 0 }; start = 0; end = 0 } })).name.0

  pub led_further : (next : ℕ) → i < length steps → Some next ≡ called → led names ns (drop i steps) at ≡ led names ns (drop (i + 1) steps) next
  unfolding no_name
  led_further next h e = led_on names ns steps i at no_name (Some next) h e

  pub led_nowhere : i < length steps → None ≡ called → led names ns (drop i steps) at ≡ None
  unfolding no_name
  led_nowhere h e = led_on names ns steps i at no_name None h e

-- ---- the number of a node that is found is below the number of nodes

from_here : {X : Type 0} (p : X → Bool) (n i : ℕ) (xs : List X) → (position_from p (n + 1) xs ≡ Some i → i < n + 1 + length xs)
    → (b : Bool) → cond b (Some n) (position_from p (n + 1) xs) ≡ Some i → i < n + suc (length xs)
from_here p n i xs more true h = let same : n ≡ i = cc in omega arith
from_here p n i xs more false h = let further = more h in omega arith

from_within : {X : Type 0} (p : X → Bool) (n : ℕ) (xs : List X) (i : ℕ) → position_from p n xs ≡ Some i → i < n + length xs
from_within p n [] i e = cc
from_within p n (x ∷ xs) i e = from_here p n i xs (from_within p (n + 1) xs i) (p x) e

position_within : {X : Type 0} (p : X → Bool) (xs : List X) (i : ℕ) → position p xs ≡ Some i → i < length xs
position_within p xs i e = let h = from_within p 0 xs i (sym (position_is p xs) ∙ e) in omega arith

pub if_within : (most : ℕ) (o : Option ℕ) → ((end : ℕ) → o ≡ Some end → end < most) → IfSome o (λ end. end < most)
if_within most None f = tt
if_within most (Some end) f = f end refl

pub some_within : (most : ℕ) (o : Option ℕ) (end : ℕ) → IfSome o (λ e. e < most) → o ≡ Some end → end < most
some_within most None end h e = cc
some_within most (Some n) end h e = let same : n ≡ end = cc in omega arith

module _ (ns : List Node) (most : ℕ) (few : length ns ≤ most) where
  child_within : (parent : ℕ) (pin : Bool) (text : List ℕ) (end : ℕ) → child ns parent pin text ≡ Some end → end < most
  child_within parent pin text end e = let h = position_within (is_called parent pin text) ns end e in omega arith

  pin_within : (files : List SourceFile) (places : List Span) (at end : ℕ) → pin_at files ns places at ≡ Some end → end < most
  pin_within files [] at end e = cc
  pin_within files (number ∷ more) at end e = child_within at true (source_text files number) end e

  pub pinned_within : (files : List SourceFile) (pin : Option TokenKind) (at end : ℕ) → at < most → pinned files ns pin at ≡ Some end → end < most
  pinned_within files None at end h e = let same : at ≡ end = cc in omega arith
  pinned_within files (Some kind) at end h e = pin_within files (number_place kind) at end e

  text_within : (parent end : ℕ) (o : Option (List ℕ)) → option_and_then (child ns parent false) o ≡ Some end → end < most
  text_within parent end None h = cc
  text_within parent end (Some text) h = child_within parent false text end h

  further : (names : List (List ℕ)) (more : List Named) (at end : ℕ) (n : Named) → ((next : ℕ) → next < most → led names ns more next ≡ Some end → end < most)
      → (o : Option ℕ) → named_child names ns at n.name.0 ≡ o → option_and_then (led names ns more) o ≡ Some end → end < most
  further names more at end n on None f g = cc
  further names more at end n on (Some next) f g = on next (text_within at next (slice_get names n.name.0) f) g

pub led_within : (names : List (List ℕ)) (ns : List Node) (most : ℕ) → length ns ≤ most → (steps : List Named) (at end : ℕ) → at < most → led names ns steps at ≡ Some end → end < most
led_within names ns most few [] at end h e = let same : at ≡ end = cc in omega arith
led_within names ns most few (n ∷ more) at end h e =
    further ns most few names more at end n (λ next l f. led_within names ns most few more next end l f) (named_child names ns at n.name.0) refl e

pub led_from_within : (names : List (List ℕ)) (ns : List Node) (most : ℕ) → length ns ≤ most → (steps : List Named) (at end : ℕ) → at < most → led_from names ns steps at ≡ Some end → end < most
led_from_within names ns most few [] at end h e = cc
led_from_within names ns most few (n ∷ more) at end h e = led_within names ns most few (n ∷ more) at end h e

-- ---- targets

pub target_is : (program : Program) (tree : Tree) (n : ℕ) (p : Path) (at : Occurrence) (nodes : List Node) (from : ℕ) → Some at ≡ slice_get tree.occurrences n → nodes ≡ tree.nodes → from ≡ at.node
    → option_and_then (pinned program.files nodes p.pin) (led_from program.names nodes p.steps from) ≡ target_of program tree n p
target_is program tree n p at nodes from there same where_from =
    ap (λ (ns : List Node). option_and_then (pinned program.files ns p.pin) (led_from program.names ns p.steps from)) same
    ∙ ap (λ (m : ℕ). option_and_then (pinned program.files tree.nodes p.pin) (led_from program.names tree.nodes p.steps m)) where_from
    ∙ ap (option_and_then (λ (o : Occurrence). option_and_then (pinned program.files tree.nodes p.pin) (led_from program.names tree.nodes p.steps o.node))) there
