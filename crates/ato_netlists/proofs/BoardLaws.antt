-- What is made from a board is what nets are made of.
use Rattle.std.proofs.Common.{◌≡◌, ℕ, ◌<◌, List, [], ◌∷◌, ◌++◌, map, fold, length, get_or, Option, Some, None, refl, ap, sym, ◌∙◌, subst, arith, append_assoc}
use Rattle.std.specs.Prelude.{All, Contains, slice_get, filter, ◌==◌}
use Rattle.std.proofs.lemmas.Option.{none-some, same_Some, slice_get-get_or}
use Rattle.ato_base.specs.declared.nets.Net.{Net}
use Rattle.ato_base.specs.declared.nets.NetPin.{NetPin}
use Rattle.ato_instance_tree.specs.declared.tree.Node.{Node}
use Rattle.ato_instance_tree.specs.declared.tree.Tree.{Tree}
use Rattle.ato_links.specs.ByNumbers.{shallower, name_by, group_name}
use Rattle.ato_links.specs.Nets.{Pin, pin_text}
use Rattle.ato_links.specs.Parts.{path_text}
use Rattle.ato_netlists.specs.declared.nets.Board.{Board}
use Rattle.ato_netlists.specs.Boards.{IsBoard, IsPinAt, IsSignalAt, numbered_pins, numbered_signals, pin_at}
use Rattle.ato_netlists.specs.Known.{IsAt}
use Rattle.ato_netlists.specs.Pins.{pin_numbers}
use Rattle.ato_netlists.specs.Signals.{AreSignals, depths_of, signal_from}
use Rattle.ato_netlists.proofs.GroupLaws.{number_of}
use Rattle.ato_netlists.proofs.KindLaws.{IsNamed, no_name, a_name, pins_are, named_by}
use Rattle.ato_netlists.proofs.NodeLaws.{pin_holder}

net : List ℕ → List NetPin → Net
net name pins = record { name = name; pins = pins }

pub same_net : (a b : Net) → a.name ≡ b.name → a.pins ≡ b.pins → a ≡ b
unfolding net
same_net a b e f = ap (λ name. net name a.pins) e ∙ ap (net b.name) f

pin : ℕ → List ℕ → NetPin
pin comp label = record { comp = comp; label = label }

pub same_pin : (a b : NetPin) → a.comp ≡ b.comp → a.label ≡ b.label → a ≡ b
unfolding pin
same_pin a b e f = ap (λ comp. pin comp a.label) e ∙ ap (pin b.comp) f

pub maps : {X Y Z : Type 0} (f : Y → Z) (g : X → Y) (xs : List X) → map (λ x. f (g x)) xs ≡ map f (map g xs)
maps f g [] = refl
maps f g (x ∷ xs) = ap (λ l. f (g x) ∷ l) (maps f g xs)

module _ (tree : Tree) (entry : ℕ) (board : Board) (b : IsBoard tree entry board) where
  pub node_there : (i : ℕ) (n : Node) → i < length board.nodes.now → n ≡ get_or board.nodes.now i n → slice_get tree.nodes i ≡ Some n
  node_there i n h e = ap (λ l. slice_get l i) (sym b.nodes) ∙ slice_get-get_or board.nodes.now i n h ∙ ap Some (sym e)

  pub pins_told : board.pins.now ≡ map (λ p. p.0) (numbered_pins board.program.now entry)
  pins_told = b.pins ∙ pins_are_of board.nodes.now b.nodes where
    pins_are_of : (ns : List Node) → ns ≡ tree.nodes → pin_numbers 0 ns ≡ map (λ p. p.0) (numbered_pins board.program.now entry)
    pins_are_of ns e = ap (pin_numbers 0) e ∙ pins_are board.program.now tree entry b.sound

  -- a pin's own name
  pub pin_named : (i : ℕ) (p : Pin) → IsPinAt board.program.now entry i p → (n : Node) → slice_get tree.nodes i ≡ Some n → (parent : ℕ) → n.parent ≡ Some parent → (text : List ℕ)
      → ((path : List ℕ) → IsAt board.program.now entry parent path → text ≡ path_text board.program.now.names path) → (text ++ 58 ∷ []) ++ n.name ≡ pin_text board.program.now.names p
  pin_named i p at n e parent f text told =
      let it = pin_holder board.program.now tree entry b.sound i p at n e parent f in
      append_assoc text (58 ∷ []) n.name ∙ ap (λ t. t ++ 58 ∷ n.name) (told p.path it.0) ∙ ap (λ l. path_text board.program.now.names p.path ++ 58 ∷ l) it.1

  -- the name of a net of a class with a signal, and of one without
  by_signal : (p : Pin) (signal : ℕ) (text : List ℕ) (o : Option ℕ) (f : Option (List ℕ)) → IsNamed (numbered_signals board.program.now entry) (depths_of tree.nodes) o f → o ≡ Some signal
      → ((path : List ℕ) → IsSignalAt board.program.now entry signal path → text ≡ path_text board.program.now.names path) → text ≡ name_by board.program.now.names p f
  by_signal p signal text None None no_name e told = absurd (none-some signal e)
  by_signal p signal text None (Some before) is e told = elim is [ ]
  by_signal p signal text (Some old) None is e told = elim is [ ]
  by_signal p signal text (Some old) (Some before) (a_name number path m deep) e told =
      told path (record { is = subst (λ k. Contains (numbered_signals board.program.now entry) (k, path)) (same_Some number signal e) m })

  by_pin : (p : Pin) (o : Option ℕ) (f : Option (List ℕ)) → IsNamed (numbered_signals board.program.now entry) (depths_of tree.nodes) o f → o ≡ None
      → name_by board.program.now.names p f ≡ pin_text board.program.now.names p
  by_pin p None None no_name e = refl
  by_pin p None (Some before) is e = elim is [ ]
  by_pin p (Some old) f is e = absurd (none-some old (sym e))

  -- the signal of a class
  signal_told : (class : ℕ) (o : Option ℕ) → AreSignals board.nodes.now board.of.now board.signals.now → class < length board.nodes.now → get_or board.signals.now class None ≡ o
      → signal_from (depths_of tree.nodes) board.of.now class 0 None tree.nodes ≡ o
  signal_told class o are h e = ap (λ ns. signal_from (depths_of ns) board.of.now class 0 None ns) (sym b.nodes) ∙ sym (are.each class h) ∙ e

  pub name_by_signal : AreSignals board.nodes.now board.of.now board.signals.now → (i signal : ℕ) (p : Pin) (text : List ℕ) → get_or board.of.now i 0 < length board.nodes.now
      → get_or board.signals.now (get_or board.of.now i 0) None ≡ Some signal
      → ((path : List ℕ) → IsSignalAt board.program.now entry signal path → text ≡ path_text board.program.now.names path)
      → text ≡ group_name board.program.now.files entry board.program.now.names board.of.now ((i, p) ∷ [])
  name_by_signal are i signal p text h e told =
      let class = get_or board.of.now i 0 in
      by_signal p signal text (signal_from (depths_of tree.nodes) board.of.now class 0 None tree.nodes)
      (fold shallower None (map (λ s. s.1) (filter (λ s. class == get_or board.of.now s.0 0) (numbered_signals board.program.now entry))))
      (named_by board.program.now tree entry b.sound board.of.now class) (signal_told class (Some signal) are h e) told

  pub name_by_pin : AreSignals board.nodes.now board.of.now board.signals.now → (i : ℕ) (p : Pin) (text : List ℕ) → get_or board.of.now i 0 < length board.nodes.now
      → get_or board.signals.now (get_or board.of.now i 0) None ≡ None → text ≡ pin_text board.program.now.names p
      → text ≡ group_name board.program.now.files entry board.program.now.names board.of.now ((i, p) ∷ [])
  name_by_pin are i p text h e told =
      let class = get_or board.of.now i 0 in
      told ∙ sym (by_pin p (signal_from (depths_of tree.nodes) board.of.now class 0 None tree.nodes)
      (fold shallower None (map (λ s. s.1) (filter (λ s. class == get_or board.of.now s.0 0) (numbered_signals board.program.now entry))))
      (named_by board.program.now tree entry b.sound board.of.now class) (signal_told class None are h e))

  -- the first pin of a group
  pub first_named : (group : List ℕ) → 0 < length group → All (λ place. place < length board.pins.now) group
      → group_name board.program.now.files entry board.program.now.names board.of.now ((get_or board.pins.now (get_or group 0 0) 0, (pin_at board.program.now entry (get_or group 0 0)).1) ∷ [])
      ≡ group_name board.program.now.files entry board.program.now.names board.of.now (map (pin_at board.program.now entry) group)
  first_named [] h within = absurd (omega (arith, h))
  first_named (g ∷ more) h within =
      ap (λ n. group_name board.program.now.files entry board.program.now.names board.of.now ((n, (pin_at board.program.now entry g).1) ∷ []))
      (number_of board.program.now entry board.pins.now pins_told g (within 0 0 (omega arith)))
