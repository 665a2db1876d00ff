-- Two trees of one project and entry block say the same: a node's place tells its parent, and its kind, name and type stand in it.
use Rattle.std.proofs.Common.{◌≡◌, ℕ, zero, suc, Bool, true, false, true≢false, List, [], ◌∷◌, ◌++◌, map, fold, length, Option, Some, None, refl, ap, sym, subst, ◌∙◌, append_assoc, append-nil, arith}
use Rattle.std.specs.Prelude.{⊤, slice_get}
use Rattle.std.specs.Option.{option_and_then, option_map}
use Rattle.std.proofs.lemmas.Option.{none-some, same_Some, slice_get-map}
use Rattle.ato_base.specs.declared.faults.Fault.{Fault}
use Rattle.ato_files.specs.declared.program.SourceFile.{SourceFile}
use Rattle.ato_files.specs.declared.program.Program.{Program}
use Rattle.ato_files.specs.Members.{signal, instance, param}
use Rattle.ato_instance_tree.specs.declared.tree.NodeKind.{NodeKind}
use Rattle.ato_instance_tree.specs.declared.tree.Node.{Node}
use Rattle.ato_instance_tree.specs.declared.tree.Occurrence.{Occurrence}
use Rattle.ato_instance_tree.specs.declared.tree.Effective.{Effective}
use Rattle.ato_instance_tree.specs.declared.tree.Late.{Late}
use Rattle.ato_instance_tree.specs.declared.tree.Tree.{Tree}
use Rattle.ato_instance_tree.specs.Members.{pin, named}
use Rattle.ato_instance_tree.specs.Walk.{Occ}
use Rattle.ato_instance_tree.specs.Order as order
use Rattle.ato_instance_tree.specs.Order.{Spot, leaf, made_at, nodes}
use Rattle.ato_instance_tree.specs.TreeFaults.{Limits}
use Rattle.ato_instance_tree.specs.Trees.{Step, Where, where_at, step_of, below, with_path, node_paths, Said, said_with, steps, spot_said, SaidOcc, occ_said, walked_said, Counts, first_said, IsTree}
use Rattle.ato_instance_tree.specs.Elaborated.{IsElaborated, IsLoaded}
use Rattle.ato_instance_tree.specs.Laws.{AreAlike, SpotPlace, at_names, at_label, place_of}
use Rattle.ato_instance_tree.proofs.PushLaws.{paths_long}
use Rattle.ato_instance_tree.proofs.SpotLaws.{no_node_twice}
use Rattle.ato_instance_tree.proofs.LoadedLaws.{names_differ}

-- ---- steps that have a text

abbrev pub Told : List Step → Type 0
Told [] = ⊤
Told (s ∷ ss) = ((text : List ℕ) × (s.text ≡ Some text)) × Told ss

abbrev pub IsTold : Where → Type 0
IsTold None = ⊤
IsTold (Some ss) = Told ss

abbrev pub AllTold : List Where → Type 0
AllTold [] = ⊤
AllTold (w ∷ ws) = IsTold w × AllTold ws

all_push : (ws : List Where) (w : Where) → AllTold ws → IsTold w → AllTold (ws ++ w ∷ [])
all_push [] w all one = (one, tt)
all_push (v ∷ ws) w all one = (all.0, all_push ws w all.1 one)

pub told_at : (ws : List Where) (i : ℕ) → AllTold ws → IsTold (where_at ws i)
told_at [] i all = tt
told_at (w ∷ ws) zero all = all.0
told_at (w ∷ ws) (suc i) all = told_at ws i all.1

told_below : (n : Node) (w : Where) → IsTold w → IsTold (option_map (λ path. step_of n ∷ path) w)
told_below n None told = tt
told_below n (Some path) told = ((n.name, refl), told)

told_node : (ws : List Where) (n : Node) (parent : Option ℕ) → AllTold ws → IsTold (below ws n parent)
told_node ws n None all = tt
told_node ws n (Some parent) all = told_below n (where_at ws parent) (told_at ws parent all)

pub all_told : (ws : List Where) (ns : List Node) → AllTold ws → AllTold (fold with_path ws ns)
all_told ws [] all = all
all_told ws (n ∷ ns) all = all_told (with_path ws n) ns (all_push ws (below ws n n.parent) all (told_node ws n n.parent all))

-- ---- places by their steps

abbrev pub spot_steps : List (List ℕ) → SpotPlace → List Step
spot_steps names (at_names path) = steps names path
spot_steps names (at_label path text) = record { pin = true; text = Some text } ∷ steps names path

pub said_place : (files : List SourceFile) (entry : ℕ) (names : List (List ℕ)) (s : Spot) → (spot_said files entry names s).path ≡ Some (spot_steps names (place_of s))
said_place files entry names (made_at path) = refl
said_place files entry names (leaf path (pin text)) = refl
said_place files entry names (leaf path (named n signal)) = refl
said_place files entry names (leaf path (named n param)) = refl
said_place files entry names (leaf path (named n (instance type))) = refl

abbrev pub Differ : List (List ℕ) → Type 0
Differ names = (i j : ℕ) (text : List ℕ) → slice_get names i ≡ Some text → slice_get names j ≡ Some text → i ≡ j

abbrev first_text : List Step → Option (List ℕ)
first_text [] = None
first_text (s ∷ ss) = s.text

abbrev first_pin : List Step → Bool
first_pin [] = false
first_pin (s ∷ ss) = s.pin

abbrev pub later : List Step → List Step
later [] = []
later (s ∷ ss) = ss

pub nil_step : (s : Step) (ss : List Step) → s ∷ ss ≡ [] → ⊥
nil_step s ss e = let long = ap length e in omega arith

same_steps : (names : List (List ℕ)) (a b : List ℕ) → Differ names → steps names a ≡ steps names b → Told (steps names a) → a ≡ b
same_steps names [] [] differ e told = refl
same_steps names [] (m ∷ b) differ e told = absurd (nil_step _ (steps names b) (sym e))
same_steps names (n ∷ a) [] differ e told = absurd (nil_step _ (steps names a) e)
same_steps names (n ∷ a) (m ∷ b) differ e told =
    let one = differ n m told.0.0 told.0.1 (sym (ap first_text e) ∙ told.0.1) in
    ap (λ k. k ∷ a) one ∙ ap (λ p. m ∷ p) (same_steps names a b differ (ap later e) told.1)

pub same_place : (names : List (List ℕ)) (a b : SpotPlace) → Differ names → spot_steps names a ≡ spot_steps names b → Told (spot_steps names a) → a ≡ b
same_place names (at_names a) (at_names b) differ e told = ap at_names (same_steps names a b differ e told)
same_place names (at_names []) (at_label b u) differ e told = absurd (nil_step _ (steps names b) (sym e))
same_place names (at_names (n ∷ a)) (at_label b u) differ e told = absurd (true≢false (sym (ap first_pin e)))
same_place names (at_label a t) (at_names []) differ e told = absurd (nil_step _ (steps names a) e)
same_place names (at_label a t) (at_names (m ∷ b)) differ e told = absurd (true≢false (ap first_pin e))
same_place names (at_label a t) (at_label b u) differ e told =
    ap (λ x. at_label a x) (same_Some t u (ap first_text e)) ∙ ap (λ p. at_label p u) (same_steps names a b differ (ap later e) told.1)

-- ---- no two nodes are at one place

abbrev pub Apart : List Where → Type 0
Apart ws = (i j : ℕ) (q : List Step) → where_at ws i ≡ Some q → where_at ws j ≡ Some q → i ≡ j

there : {X Y : Type 0} (f : X → Option Y) (o : Option X) (y : Y) → option_and_then f o ≡ Some y → (x : X) × (o ≡ Some x) × (f x ≡ Some y)
there f None y e = absurd (none-some y e)
there f (Some x) y e = (x, refl, e)

pub mapped : {X Y : Type 0} (f : X → Y) (o : Option X) (y : Y) → option_map f o ≡ Some y → (x : X) × (o ≡ Some x) × (f x ≡ y)
mapped f None y e = absurd (none-some y e)
mapped f (Some x) y e = (x, refl, same_Some (f x) y e)

-- the path of a node that is said
abbrev pub said_path : List SourceFile → ℕ → List (List ℕ) → Spot → Where
said_path files entry names s = (spot_said files entry names s).path

pub spot_at : (files : List SourceFile) (entry : ℕ) (names : List (List ℕ)) (ss : List Spot) (i : ℕ) (q : List Step) → where_at (map (said_path files entry names) ss) i ≡ Some q
    → (s : Spot) × (slice_get ss i ≡ Some s) × (spot_steps names (place_of s) ≡ q)
spot_at files entry names ss i q e =
    let w = there (λ (w : Where). w) (slice_get (map (said_path files entry names) ss) i) q e in
    let s = mapped (said_path files entry names) (slice_get ss i) w.0 (sym (slice_get-map (said_path files entry names) ss i) ∙ w.1) in
    (s.0, s.1, same_Some (spot_steps names (place_of s.0)) q (sym (said_place files entry names s.0) ∙ s.2 ∙ w.2))

paths_apart : (files : List SourceFile) (entry : ℕ) (names : List (List ℕ)) → Differ names → AllTold (map (said_path files entry names) (nodes files entry))
    → Apart (map (said_path files entry names) (nodes files entry))
paths_apart files entry names differ told i j q e f =
    let s = spot_at files entry names (nodes files entry) i q e in
    let t = spot_at files entry names (nodes files entry) j q f in
    let known = subst IsTold e (told_at (map (said_path files entry names) (nodes files entry)) i told) in
    no_node_twice files entry i j s.0 t.0 s.1 t.1 (same_place names (place_of s.0) (place_of t.0) differ (s.2 ∙ sym t.2) (subst Told (sym s.2) known))

-- ---- what is said of nodes without their paths

abbrev forget : Said → Said
forget s = record { path = None; name = s.name; kind = s.kind; block = s.block }

abbrev bare : Node → Said
bare n = record { path = None; name = Some n.name; kind = Some n.kind; block = n.block }

said_bare : (ws : List Where) (ns : List Node) → length ws ≡ length ns → map forget (said_with ws ns) ≡ map bare ns
said_bare [] [] e = refl
said_bare [] (n ∷ ns) e = absurd (omega arith)
said_bare (w ∷ ws) [] e = absurd (omega arith)
said_bare (w ∷ ws) (n ∷ ns) e = ap (λ l. bare n ∷ l) (said_bare ws ns (omega arith))

said_paths : (ws : List Where) (ns : List Node) → length ws ≡ length ns → map (λ (s : Said). s.path) (said_with ws ns) ≡ ws
said_paths [] [] e = refl
said_paths [] (n ∷ ns) e = absurd (omega arith)
said_paths (w ∷ ws) [] e = absurd (omega arith)
said_paths (w ∷ ws) (n ∷ ns) e = ap (λ l. w ∷ l) (said_paths ws ns (omega arith))

-- ---- one node after another

pub grown : (ws : List Where) (ns : List Node) → (more : List Where) × (fold with_path ws ns ≡ ws ++ more)
grown ws [] = ([], sym (append-nil ws))
grown ws (n ∷ ns) = let more = grown (with_path ws n) ns in
    (below ws n n.parent ∷ more.0, more.1 ∙ append_assoc ws (below ws n n.parent ∷ []) more.0)

pub front_at : (ws more : List Where) (i : ℕ) (q : List Step) → where_at ws i ≡ Some q → where_at (ws ++ more) i ≡ Some q
front_at [] more i q e = absurd (none-some q e)
front_at (w ∷ ws) more zero q e = e
front_at (w ∷ ws) more (suc i) q e = front_at ws more i q e

abbrev pub rest_of : {X : Type 0} → List X → List X
rest_of [] = []
rest_of (x ∷ xs) = xs

abbrev pub head_or : {X : Type 0} → X → List X → X
head_or other [] = other
head_or other (x ∷ xs) = x

behind : {X : Type 0} (ws : List X) (a b : List X) → ws ++ a ≡ ws ++ b → a ≡ b
behind [] a b e = e
behind (w ∷ ws) a b e = behind ws a b (ap rest_of e)

node : NodeKind → List ℕ → Option ℕ → Option ℕ → Node
node kind name parent block = record { kind = kind; name = name; parent = parent; block = block }

same_node : (n m : Node) → n.kind ≡ m.kind → n.name ≡ m.name → n.parent ≡ m.parent → n.block ≡ m.block → n ≡ m
unfolding node
same_node n m e f g h = ap (λ x. node x n.name n.parent n.block) e ∙ ap (λ x. node m.kind x n.parent n.block) f ∙ ap (λ x. node m.kind m.name x n.block) g ∙ ap (node m.kind m.name m.parent) h

-- two nodes at one place below others that are apart have one parent
same_parent : (all ws : List Where) (n m : Node) (a b : Option ℕ) (q : List Step) → ((i : ℕ) (p : List Step) → where_at ws i ≡ Some p → where_at all i ≡ Some p) → Apart all
    → below ws n a ≡ Some q → below ws m b ≡ Some q → a ≡ b
same_parent all ws n m None None q front apart e f = refl
same_parent all ws n m None (Some b) q front apart e f = let up = mapped (λ path. step_of m ∷ path) (where_at ws b) q f in
    absurd (nil_step (step_of m) up.0 (up.2 ∙ sym (same_Some [] q e)))
same_parent all ws n m (Some a) None q front apart e f = let up = mapped (λ path. step_of n ∷ path) (where_at ws a) q e in
    absurd (nil_step (step_of n) up.0 (up.2 ∙ sym (same_Some [] q f)))
same_parent all ws n m (Some a) (Some b) q front apart e f =
    let up = mapped (λ path. step_of n ∷ path) (where_at ws a) q e in
    let other = mapped (λ path. step_of m ∷ path) (where_at ws b) q f in
    ap Some (apart a b up.0 (front a up.0 up.1) (front b up.0 (other.1 ∙ ap Some (ap later (other.2 ∙ sym up.2)))))

abbrev AllThere : List Where → Type 0
AllThere [] = ⊤
AllThere (w ∷ ws) = ((q : List Step) × (w ≡ Some q)) × AllThere ws

-- what a fold puts behind the paths that are there
put_first : (all ws rest : List Where) (n : Node) (ns : List Node) → all ≡ ws ++ rest → fold with_path ws (n ∷ ns) ≡ all → (more : List Where) × (rest ≡ below ws n n.parent ∷ more)
put_first all ws rest n ns is e =
    let more = grown (with_path ws n) ns in
    (more.0, behind ws rest (below ws n n.parent ∷ more.0) (sym is ∙ sym e ∙ more.1 ∙ append_assoc ws (below ws n n.parent ∷ []) more.0))

same_nodes : (all ws rest : List Where) (ns ms : List Node) → all ≡ ws ++ rest → fold with_path ws ns ≡ all → fold with_path ws ms ≡ all → AllThere rest → Apart all
    → map bare ns ≡ map bare ms → ns ≡ ms
same_nodes all ws rest [] [] is e f there apart same = refl
same_nodes all ws rest [] (m ∷ ms) is e f there apart same = let long = ap length same in absurd (omega arith)
same_nodes all ws rest (n ∷ ns) [] is e f there apart same = let long = ap length same in absurd (omega arith)
same_nodes all ws rest (n ∷ ns) (m ∷ ms) is e f there apart same =
    let one = put_first all ws rest n ns is e in
    let two = put_first all ws rest m ms is f in
    let at = subst AllThere one.1 there in
    let paths : below ws n n.parent ≡ below ws m m.parent = ap (head_or (below ws n n.parent)) (sym one.1 ∙ two.1) in
    let said : bare n ≡ bare m = ap (head_or (bare n)) same in
    let parents = same_parent all ws n m n.parent m.parent at.0.0 (λ i p k. subst (λ l. where_at l i ≡ Some p) (sym is) (front_at ws rest i p k)) apart at.0.1 (sym paths ∙ at.0.1) in
    let node_is : n ≡ m = same_node n m (same_Some n.kind m.kind (ap (λ (s : Said). s.kind) said)) (same_Some n.name m.name (ap (λ (s : Said). s.name) said)) parents (ap (λ (s : Said). s.block) said) in
    let whole : all ≡ with_path ws n ++ one.0 = is ∙ ap (λ r. ws ++ r) one.1 ∙ sym (append_assoc ws (below ws n n.parent ∷ []) one.0) in
    ap (λ x. x ∷ ns) node_is
    ∙ ap (λ l. m ∷ l) (same_nodes all (with_path ws n) one.0 ns ms whole e (ap (λ x. fold with_path (with_path ws x) ms) node_is ∙ f) at.1 apart (ap rest_of same))

-- ---- occurrences

occurrence : ℕ → ℕ → ℕ → ℕ → Occurrence
occurrence node block line part = record { node = node; block = block; line = line; part = part }

same_occurrence : (a b : Occurrence) → a.node ≡ b.node → a.block ≡ b.block → a.line ≡ b.line → a.part ≡ b.part → a ≡ b
unfolding occurrence
same_occurrence a b e f g h = ap (λ x. occurrence x a.block a.line a.part) e ∙ ap (λ x. occurrence b.node x a.line a.part) f
    ∙ ap (λ x. occurrence b.node b.block x a.part) g ∙ ap (occurrence b.node b.block b.line) h

same_occurrences : (ws : List Where) (names : List (List ℕ)) (os : List Occ) (xs ys : List Occurrence) → Apart ws
    → map (occ_said ws) xs ≡ map (walked_said names) os → map (occ_said ws) ys ≡ map (walked_said names) os → xs ≡ ys
same_occurrences ws names os [] [] apart e f = refl
same_occurrences ws names os [] (y ∷ ys) apart e f = let long = ap length (e ∙ sym f) in absurd (omega arith)
same_occurrences ws names os (x ∷ xs) [] apart e f = let long = ap length (e ∙ sym f) in absurd (omega arith)
same_occurrences ws names [] (x ∷ xs) (y ∷ ys) apart e f = let long = ap length e in absurd (omega arith)
same_occurrences ws names (o ∷ os) (x ∷ xs) (y ∷ ys) apart e f =
    let one : occ_said ws x ≡ walked_said names o = ap (head_or (occ_said ws x)) e in
    let two : occ_said ws y ≡ walked_said names o = ap (head_or (occ_said ws y)) f in
    let said : occ_said ws x ≡ occ_said ws y = one ∙ sym two in
    ap (λ z. z ∷ xs) (same_occurrence x y (apart x.node y.node (steps names o.path) (ap (λ (s : SaidOcc). s.path) one) (ap (λ (s : SaidOcc). s.path) two))
    (ap (λ (s : SaidOcc). s.block) said) (ap (λ (s : SaidOcc). s.line) said) (ap (λ (s : SaidOcc). s.part) said))
    ∙ ap (λ l. y ∷ l) (same_occurrences ws names os xs ys apart (ap rest_of e) (ap rest_of f))

-- ---- the first fault

late : ℕ → Fault → Late
late occurrence fault = record { occurrence = occurrence; fault = fault }

same_late : (a b : Late) → a.occurrence ≡ b.occurrence → a.fault ≡ b.fault → a ≡ b
unfolding late
same_late a b e f = ap (λ x. late x a.fault) e ∙ ap (late b.occurrence) f

same_first : (a b : Option Late) → first_said a ≡ first_said b → a ≡ b
same_first None None e = refl
same_first None (Some b) e = absurd (none-some _ e)
same_first (Some a) None e = absurd (none-some _ (sym e))
same_first (Some a) (Some b) e =
    let both = same_Some (a.occurrence, a.fault) (b.occurrence, b.fault) e in
    ap Some (same_late a b (ap (λ (p : ℕ × Fault). p.0) both) (ap (λ (p : ℕ × Fault). p.1) both))

-- ---- whole trees

said_there : (files : List SourceFile) (entry : ℕ) (names : List (List ℕ)) (ss : List Spot) → AllThere (map (said_path files entry names) ss)
said_there files entry names [] = tt
said_there files entry names (s ∷ ss) = ((spot_steps names (place_of s), said_place files entry names s), said_there files entry names ss)

map_after : {X Y Z : Type 0} (f : Y → Z) (g : X → Y) (xs : List X) → map f (map g xs) ≡ map (λ x. f (g x)) xs
map_after f g [] = refl
map_after f g (x ∷ xs) = ap (λ l. f (g x) ∷ l) (map_after f g xs)

-- the paths of a tree's nodes are those of the project's
pub tree_paths : (files : List SourceFile) (names : List (List ℕ)) (entry : ℕ) (t : Tree) → IsTree files names entry t → node_paths t.nodes ≡ map (said_path files entry names) (nodes files entry)
tree_paths files names entry t is = sym (said_paths (node_paths t.nodes) t.nodes (paths_long t.nodes))
    ∙ ap (map (λ (s : Said). s.path)) is.told ∙ map_after (λ (s : Said). s.path) (spot_said files entry names) (nodes files entry)

bare_nodes : (files : List SourceFile) (names : List (List ℕ)) (entry : ℕ) (t : Tree) → IsTree files names entry t → map bare t.nodes ≡ map forget (map (spot_said files entry names) (nodes files entry))
bare_nodes files names entry t is = sym (said_bare (node_paths t.nodes) t.nodes (paths_long t.nodes)) ∙ ap (map forget) is.told

pub nodes_apart : (files : List SourceFile) (names : List (List ℕ)) (entry : ℕ) (t : Tree) → Differ names → IsTree files names entry t → Apart (map (said_path files entry names) (nodes files entry))
nodes_apart files names entry t differ is = paths_apart files entry names differ (subst AllTold (tree_paths files names entry t is) (all_told [] t.nodes tt))

counts_too : (files : List SourceFile) (entry : ℕ) (names : List (List ℕ)) (t u : Tree) (e : Effective) → node_paths t.nodes ≡ node_paths u.nodes → Counts files entry names t e → Counts files entry names u e
counts_too files entry names t u e same c = record { path = c.path; name = c.name; occ = c.occ; at = ap (λ ws. where_at ws e.node) (sym same) ∙ c.at; called = c.called; last = c.last; by = c.by }

pub one_tree_of : (files : List SourceFile) (names : List (List ℕ)) (entry : ℕ) (t u : Tree) → Differ names → IsTree files names entry t → IsTree files names entry u → AreAlike t u
one_tree_of files names entry t u differ a b =
    let all = map (said_path files entry names) (nodes files entry) in
    let pt = tree_paths files names entry t a in
    let pu = tree_paths files names entry u b in
    let apart = nodes_apart files names entry t differ a in
    let firsts = same_first t.first u.first (a.first ∙ sym b.first) in
    record {
      nodes = same_nodes all [] all t.nodes u.nodes refl pt pu (said_there files entry names (nodes files entry)) apart (bare_nodes files names entry t a ∙ sym (bare_nodes files names entry u b));
      occurrences = same_occurrences all names (order.occurrences files entry) t.occurrences u.occurrences apart
          (ap (λ ws. map (occ_said ws) t.occurrences) (sym pt) ∙ a.written) (ap (λ ws. map (occ_said ws) u.occurrences) (sym pu) ∙ b.written);
      first = firsts;
      effective = λ none e.
          let ea = a.effective none in
          let eb = b.effective (sym firsts ∙ none) in (
            (λ h. (eb.each e).1 (counts_too files entry names t u e (pt ∙ sym pu) ((ea.each e).0 h))),
            (λ h. (ea.each e).1 (counts_too files entry names u t e (pu ∙ sym pt) ((eb.each e).0 h))),
          );
    }

pub one_tree : (most : Limits) (program : Program) (name : List ℕ) (t u : Tree) → IsLoaded program → IsElaborated most program name t → IsElaborated most program name u → AreAlike t u
one_tree most program name t u loaded a b =
    let same = same_Some b.entry a.entry (sym b.named ∙ a.named) in
    one_tree_of program.files program.names a.entry t u (names_differ program loaded) a.is (subst (λ e. IsTree program.files program.names e u) same b.is)
