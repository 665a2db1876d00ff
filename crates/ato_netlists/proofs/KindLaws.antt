-- The pins and the signals of a tree are those of its project, and so is the signal that names a net.
use Rattle.std.proofs.Common.{◌≡◌, ℕ, suc, Bool, true, false, List, [], ◌∷◌, map, fold, length, get_or, Option, Some, None, refl, ap, sym, ◌∙◌, subst, arith, if◌then◌else◌}
use Rattle.std.specs.Prelude.{◌==◌, ◌&&◌, nat_lt, Contains, cond, filter}
use Rattle.std.specs.List.{AllZip, list_any}
use Rattle.std.specs.Option.{option_map}
use Rattle.std.proofs.lemmas.Option.{none-some, same_Some}
use Rattle.ato_base.proofs.ClassLaws.{first, later}
use Rattle.ato_files.specs.declared.program.SourceFile.{SourceFile}
use Rattle.ato_files.specs.declared.program.Program.{Program}
use Rattle.ato_files.specs.Members.{signal, instance, param}
use Rattle.ato_instance_tree.specs.declared.tree.NodeKind.{NodeKind}
use Rattle.ato_instance_tree.specs.declared.tree.NodeKind.TheVariants as node
use Rattle.ato_instance_tree.specs.declared.tree.Node.{Node}
use Rattle.ato_instance_tree.specs.declared.tree.Tree.{Tree}
use Rattle.ato_instance_tree.specs.Members.{pin, named}
use Rattle.ato_instance_tree.specs.Order.{Spot, leaf, made_at, nodes}
use Rattle.ato_instance_tree.specs.Trees.{Where, is_pin, node_paths, Said, said_with, spot_said}
use Rattle.ato_instance_tree.specs.Types.{type_kind, block_kinds, is_component, is_module}
use Rattle.ato_instance_tree.specs.Walk.{type_at}
use Rattle.ato_instance_tree.proofs.PushLaws.{paths_long}
use Rattle.ato_instance_tree.proofs.TreeLaws.{head_or, rest_of}
use Rattle.ato_links.specs.Nets.{pins_of, signals_of}
use Rattle.ato_links.specs.ByNumbers.{numbered_by, shallower}
use Rattle.ato_netlists.specs.Boards.{numbered_pins, numbered_signals}
use Rattle.ato_netlists.specs.Known.{IsSound}
use Rattle.ato_netlists.specs.Signals.{is_signal, shallower_of, signal_from, depths_of}
use Rattle.ato_netlists.specs.Pins.{pin_numbers}
use Rattle.ato_netlists.proofs.NodeLaws.{tree_is, signal_node}

-- ---- kinds

abbrev has_pin : Spot → Bool
has_pin (leaf path (pin text)) = true
has_pin (leaf path (named n k)) = false
has_pin (made_at path) = false

abbrev has_signal : Spot → Bool
has_signal (leaf path (named n signal)) = true
has_signal (leaf path (named n param)) = false
has_signal (leaf path (named n (instance type))) = false
has_signal (leaf path (pin text)) = false
has_signal (made_at path) = false

-- A kind is that of a spot.
record IsKind (kind : NodeKind) (s : Spot) : Type 0 where
  pins : is_pin kind ≡ has_pin s
  signals : is_signal kind ≡ has_signal s

-- The kind is that of an instance.
record IsMade (kind : NodeKind) : Type 0 where
  no_pin : is_pin kind ≡ false
  no_signal : is_signal kind ≡ false

made_cases : (a b : Bool) → IsMade (if a then node.Component else (if b then node.Module else node.Interface))
made_cases true b = record { no_pin = refl; no_signal = refl }
made_cases false true = record { no_pin = refl; no_signal = refl }
made_cases false false = record { no_pin = refl; no_signal = refl }

made_kind : (files : List SourceFile) (type : Option ℕ) (kind : NodeKind) → option_map (type_kind files) type ≡ Some kind → IsMade kind
made_kind files None kind e = absurd (none-some kind e)
made_kind files (Some t) kind e =
    subst IsMade (same_Some (type_kind files t) kind e) (made_cases (list_any is_component (block_kinds files t)) (list_any is_module (block_kinds files t)))

of_kind : (files : List SourceFile) (entry : ℕ) (names : List (List ℕ)) (kind : NodeKind) (s : Spot) → (spot_said files entry names s).kind ≡ Some kind → IsKind kind s
of_kind files entry names kind (leaf path (pin text)) e = subst (λ k. IsKind k (leaf path (pin text))) (same_Some node.Pin kind e) (record { pins = refl; signals = refl })
of_kind files entry names kind (leaf path (named n signal)) e = subst (λ k. IsKind k (leaf path (named n signal))) (same_Some node.Signal kind e) (record { pins = refl; signals = refl })
of_kind files entry names kind (leaf path (named n param)) e = subst (λ k. IsKind k (leaf path (named n param))) (same_Some node.Param kind e) (record { pins = refl; signals = refl })
of_kind files entry names kind (leaf path (named n (instance type))) e =
    let it = made_kind files (type_at files entry (n.name.0 ∷ path)) kind e in
    record { pins = it.no_pin; signals = it.no_signal }
of_kind files entry names kind (made_at path) e =
    let it = made_kind files (type_at files entry path) kind e in
    record { pins = it.no_pin; signals = it.no_signal }

abbrev AreKinds : List Node → List Spot → Type 0
AreKinds = AllZip (λ (n : Node) s. IsKind n.kind s)

are_kinds : (files : List SourceFile) (entry : ℕ) (names : List (List ℕ)) (ws : List Where) (ns : List Node) (ss : List Spot) → length ws ≡ length ns
    → said_with ws ns ≡ map (spot_said files entry names) ss → AreKinds ns ss
are_kinds files entry names [] [] [] l e = tt
are_kinds files entry names [] [] (s ∷ ss) l e = absurd (cc)
are_kinds files entry names [] (n ∷ ns) ss l e = absurd (omega (arith, l))
are_kinds files entry names (w ∷ ws) [] ss l e = absurd (omega (arith, l))
are_kinds files entry names (w ∷ ws) (n ∷ ns) [] l e = absurd (cc)
are_kinds files entry names (w ∷ ws) (n ∷ ns) (s ∷ ss) l e = (
  of_kind files entry names n.kind s (sym (ap (λ (all : List Said). (head_or (spot_said files entry names s) all).kind) e)),
  are_kinds files entry names ws ns ss (omega (arith, l)) (ap rest_of e),
)

-- ---- pins

numbers_are : (n : ℕ) (ns : List Node) (ss : List Spot) → AreKinds ns ss → pin_numbers n ns ≡ map (λ p. p.0) (numbered_by pins_of n ss)
numbers_are n [] [] z = refl
numbers_are n [] (s ∷ ss) z = absurd z
numbers_are n (x ∷ ns) [] z = absurd z
numbers_are n (x ∷ ns) (leaf path (pin text) ∷ ss) z =
    ap (λ b. if b then n ∷ pin_numbers (suc n) ns else pin_numbers (suc n) ns) z.0.pins ∙ ap (λ l. n ∷ l) (numbers_are (suc n) ns ss z.1)
numbers_are n (x ∷ ns) (leaf path (named m k) ∷ ss) z = ap (λ b. if b then n ∷ pin_numbers (suc n) ns else pin_numbers (suc n) ns) z.0.pins ∙ numbers_are (suc n) ns ss z.1
numbers_are n (x ∷ ns) (made_at path ∷ ss) z = ap (λ b. if b then n ∷ pin_numbers (suc n) ns else pin_numbers (suc n) ns) z.0.pins ∙ numbers_are (suc n) ns ss z.1

-- ---- signals

-- A signal is known by its number and by its path, or there is none.
pub data IsNamed (all : List (ℕ × List ℕ)) (depths : List ℕ) : Option ℕ → Option (List ℕ) → Type 0 where
  no_name : IsNamed all depths None None
  a_name : (number : ℕ) (path : List ℕ) → Contains all (number, path) → get_or depths number 0 ≡ length path → IsNamed all depths (Some number) (Some path)

module _ (all : List (ℕ × List ℕ)) (depths of : List ℕ) (class : ℕ) where
  take_one : (best : Option ℕ) (path : Option (List ℕ)) (number : ℕ) (other : List ℕ) → IsNamed all depths best path → Contains all (number, other)
      → get_or depths number 0 ≡ length other → IsNamed all depths (shallower_of depths best number) (shallower path other)
  take_one None None number other no_name m deep = a_name number other m deep
  take_one None (Some before) number other is m deep = elim is [ ]
  take_one (Some old) None number other is m deep = elim is [ ]
  take_one (Some old) (Some before) number other (a_name i path k depth) m deep =
      subst (λ a. IsNamed all depths (if nat_lt a (get_or depths i 0) then Some number else Some i) (if nat_lt (length other) (length path) then Some other else Some path)) (sym deep)
      (subst (λ a. IsNamed all depths (if nat_lt (length other) a then Some number else Some i) (if nat_lt (length other) (length path) then Some other else Some path)) (sym depth)
      (by (nat_lt (length other) (length path))))
    where
      by : (b : Bool) → IsNamed all depths (if b then Some number else Some i) (if b then Some other else Some path)
      by true = a_name number other m deep
      by false = a_name i path k depth

  abbrev rest : Option (List ℕ) → List (ℕ × List ℕ) → Option (List ℕ)
  rest path ss = fold shallower path (map (λ s. s.1) (filter (λ s. class == get_or of s.0 0) ss))

  abbrev Known : List (ℕ × List ℕ) → Type 0
  Known ss = (number : ℕ) (path : List ℕ) → Contains ss (number, path) → Contains all (number, path) × (get_or depths number 0 ≡ length path)

  -- a node that is no signal
  pass : (x : Node) (n : ℕ) (best : Option ℕ) (ns : List Node) (goal : Option (List ℕ)) → is_signal x.kind ≡ false
      → IsNamed all depths (signal_from depths of class (suc n) best ns) goal → IsNamed all depths (signal_from depths of class n best (x ∷ ns)) goal
  pass x n best ns goal f is = subst (λ b. IsNamed all depths (signal_from depths of class (suc n) (if b && (class == get_or of n 0) then shallower_of depths best n else best) ns) goal) (sym f) is

  names_are : (n : ℕ) (best : Option ℕ) (path : Option (List ℕ)) (ns : List Node) (ss : List Spot) → AreKinds ns ss → Known (numbered_by signals_of n ss) → IsNamed all depths best path
      → IsNamed all depths (signal_from depths of class n best ns) (rest path (numbered_by signals_of n ss))
  names_are n best path [] [] z known is = is
  names_are n best path [] (s ∷ ss) z known is = absurd z
  names_are n best path (x ∷ ns) [] z known is = absurd z
  names_are n best path (x ∷ ns) (leaf up (named m signal) ∷ ss) z known is =
      let q = m.name.0 ∷ up in
      let more = numbered_by signals_of (suc n) ss in
      let here = known n q (first (n, q) more) in
      let others : Known more = λ number p h. known number p (later (n, q) (number, p) more h) in
      subst (λ b. IsNamed all depths (signal_from depths of class (suc n) (if b && (class == get_or of n 0) then shallower_of depths best n else best) ns) (rest path ((n, q) ∷ more))) (sym z.0.signals)
      (by (class == get_or of n 0) (names_are (suc n) (shallower_of depths best n) (shallower path q) ns ss z.1 others (take_one best path n q is here.0 here.1)) (names_are (suc n) best path ns ss z.1 others is))
    where
      by : (b : Bool) → IsNamed all depths (signal_from depths of class (suc n) (shallower_of depths best n) ns) (rest (shallower path (m.name.0 ∷ up)) (numbered_by signals_of (suc n) ss))
          → IsNamed all depths (signal_from depths of class (suc n) best ns) (rest path (numbered_by signals_of (suc n) ss))
          → IsNamed all depths (signal_from depths of class (suc n) (if b then shallower_of depths best n else best) ns)
          (fold shallower path (map (λ s. s.1) (cond b ((n, m.name.0 ∷ up) ∷ filter (λ s. class == get_or of s.0 0) (numbered_by signals_of (suc n) ss)) (filter (λ s. class == get_or of s.0 0) (numbered_by signals_of (suc n) ss)))))
      by true taken left = taken
      by false taken left = left
  names_are n best path (x ∷ ns) (leaf up (named m param) ∷ ss) z known is = pass x n best ns (rest path (numbered_by signals_of (suc n) ss)) z.0.signals (names_are (suc n) best path ns ss z.1 known is)
  names_are n best path (x ∷ ns) (leaf up (named m (instance type)) ∷ ss) z known is = pass x n best ns (rest path (numbered_by signals_of (suc n) ss)) z.0.signals (names_are (suc n) best path ns ss z.1 known is)
  names_are n best path (x ∷ ns) (leaf up (pin text) ∷ ss) z known is = pass x n best ns (rest path (numbered_by signals_of (suc n) ss)) z.0.signals (names_are (suc n) best path ns ss z.1 known is)
  names_are n best path (x ∷ ns) (made_at up ∷ ss) z known is = pass x n best ns (rest path (numbered_by signals_of (suc n) ss)) z.0.signals (names_are (suc n) best path ns ss z.1 known is)

-- ---- trees

module _ (program : Program) (tree : Tree) (entry : ℕ) (sound : IsSound program tree entry) where
  kinds : AreKinds tree.nodes (nodes program.files entry)
  kinds = are_kinds program.files entry program.names (node_paths tree.nodes) tree.nodes (nodes program.files entry) (paths_long tree.nodes) (tree_is program tree entry sound).told

  pub pins_are : pin_numbers 0 tree.nodes ≡ map (λ p. p.0) (numbered_pins program entry)
  pins_are = numbers_are 0 tree.nodes (nodes program.files entry) kinds

  -- the signal of a class by its number and by its path
  pub named_by : (of : List ℕ) (class : ℕ) → IsNamed (numbered_signals program entry) (depths_of tree.nodes) (signal_from (depths_of tree.nodes) of class 0 None tree.nodes)
      (fold shallower None (map (λ s. s.1) (filter (λ s. class == get_or of s.0 0) (numbered_signals program entry))))
  named_by of class = names_are (numbered_signals program entry) (depths_of tree.nodes) of class 0 None None tree.nodes (nodes program.files entry) kinds
      (λ number path m. (m, (signal_node program tree entry sound number path (record { is = m })).depth)) no_name
