-- What is found by numbers is what is found by paths.
use Rattle.std.proofs.Common.{◌≡◌, ℕ, Bool, true, false, cond, List, [], ◌∷◌, Option, Some, None, refl, sym, ap, ◌∙◌, subst}
use Rattle.std.specs.Prelude.{slice_get, position, if◌then◌else◌}
use Rattle.std.specs.Option.{option_map, option_and_then}
use Rattle.ato_base.specs.declared.places.Span.{Span}
use Rattle.ato_base.specs.declared.tokens.TokenKind.{TokenKind}
use Rattle.ato_ast.specs.declared.names.Named.{Named}
use Rattle.ato_ast.specs.declared.paths.Path.{Path}
use Rattle.ato_files.specs.declared.program.SourceFile.{SourceFile}
use Rattle.ato_files.specs.Members.{Kind, signal, instance, param}
use Rattle.ato_instance_tree.specs.declared.tree.Node.{Node}
use Rattle.ato_instance_tree.specs.declared.tree.NodeKind.{NodeKind}
use Rattle.ato_instance_tree.specs.Types.{type_kind}
use Rattle.ato_instance_tree.specs.Members.{members, source_text}
use Rattle.ato_instance_tree.specs.Walk.{type_at}
use Rattle.ato_instance_tree.specs.Order.{nodes, made_at}
use Rattle.ato_instance_tree.specs.Paths as paths
use Rattle.ato_instance_tree.specs.Paths.{lost, free, member_of, pin_of, member_at, end_found, onward, find_steps, has_pin, pin_found, number_place, steps_found, ended, pin_ended, find_path}
use Rattle.ato_elab.specs.declared.built.Built.{Built}
use Rattle.ato_elab.specs.declared.finding_names.Sort.{Sort}
use Rattle.ato_elab.specs.declared.finding_names.Sort.TheVariants as sort
use Rattle.ato_elab.specs.declared.finding_paths.Found.{Found}
use Rattle.ato_elab.specs.declared.finding_paths.Found.TheVariants as found
use Rattle.ato_elab.specs.declared.late_ground.Ground.{Ground}
use Rattle.ato_elab.specs.Finding.{named_in, ended_at, led_by, led_on, steps_from, steps_in}
use Rattle.ato_elab.specs.Ground as ground
use Rattle.ato_elab.specs.Ground.{type_of, has_label, pin_in, last_in, ended_in, found_in}
use Rattle.ato_elab.specs.Pins.{holds_maybe, ArePins}
use Rattle.ato_elab.specs.Standing.{IsAt, HasKind, IsReady}
use Rattle.ato_elab.specs.Landing.{IsNamed, IsFound, IsGround, PathsAreFound, sort_of}
use Rattle.ato_elab.proofs.NamedLaws.{names_are_found}
use Rattle.ato_elab.proofs.SaidLaws.{spot_node}

-- ---- names

ended_law : (files : List SourceFile) (entry number : ℕ) (path : List ℕ) (n : Named) (k : Option Kind) (r : Option (ℕ × Sort)) → IsAt files entry number path → IsNamed files entry path n.name.0 k r
    → IsFound files entry (end_found path n k) (ended_at number n r)
ended_law files entry number path n None None at is = (refl, at)
ended_law files entry number path n None (Some r) at is = absurd is
ended_law files entry number path n (Some k) None at is = absurd is
ended_law files entry number path n (Some k) (Some r) at is = (refl, at, is.0, is.1)

on_law : (files : List SourceFile) (entry : ℕ) (path : List ℕ) (n m : Named) (k : Option Kind) (r : Option (ℕ × Sort)) (f : paths.Found) (further : ℕ → Found) → IsNamed files entry path n.name.0 k r
    → ((node : ℕ) → IsAt files entry node (n.name.0 ∷ path) → IsFound files entry f (further node)) → IsFound files entry (onward n m k f) (led_on n m r further)
on_law files entry path n m None None f further is more = refl
on_law files entry path n m None (Some r) f further is more = absurd is
on_law files entry path n m (Some k) None f further is more = absurd is
on_law files entry path n m (Some signal) (Some r) f further is more = subst (λ (s : Sort). IsFound files entry (lost m.at) (led_by m s (further r.0))) (sym is.0) refl
on_law files entry path n m (Some (instance type)) (Some r) f further is more =
    subst (λ (s : Sort). IsFound files entry f (led_by m s (further r.0))) (sym is.0) (more r.0 (record { is = is.1 }))
on_law files entry path n m (Some param) (Some r) f further is more = subst (λ (s : Sort). IsFound files entry (lost m.at) (led_by m s (further r.0))) (sym is.0) refl

pub walk_law : (files : List SourceFile) (names : List (List ℕ)) (entry : ℕ) (built : Built) → IsReady files names entry built → (number : ℕ) (path : List ℕ) (n : Named) (more : List Named)
    → IsAt files entry number path → IsFound files entry (find_steps files entry path n more) (steps_from built number n more)
unfolding steps_from
walk_law files names entry built ready number path n [] at =
    ended_law files entry number path n (member_at files entry path n.name.0) (named_in built number n.name.0) at (names_are_found files names entry number n.name.0 built path ready at)
walk_law files names entry built ready number path n (m ∷ more) at =
    on_law files entry path n m (member_at files entry path n.name.0) (named_in built number n.name.0) (find_steps files entry (n.name.0 ∷ path) m more) (λ node. steps_from built node m more)
    (names_are_found files names entry number n.name.0 built path ready at) (λ node there. walk_law files names entry built ready node (n.name.0 ∷ path) m more there)

pub steps_law : (files : List SourceFile) (names : List (List ℕ)) (entry : ℕ) (built : Built) → IsReady files names entry built → (number : ℕ) (path : List ℕ) (whole : Span) (ns : List Named)
    → IsAt files entry number path → IsFound files entry (steps_found files entry path whole ns) (steps_in built number whole ns)
steps_law files names entry built ready number path whole [] at = refl
steps_law files names entry built ready number path whole (n ∷ more) at = walk_law files names entry built ready number path n more at

-- ---- pins

-- the type of a node, which is there
pub record HasType (files : List SourceFile) (entry : ℕ) (path : List ℕ) (ns : List Node) (number : ℕ) : Type 0 where
  pub node : Node
  pub type : ℕ
  pub at : slice_get ns number ≡ Some node
  pub block : node.block ≡ Some type
  pub is : type_at files entry path ≡ Some type
  pub kind : node.kind ≡ type_kind files type

typed : (files : List SourceFile) (entry : ℕ) (path : List ℕ) (ns : List Node) (number : ℕ) (node : Node) (t : Option ℕ) → type_at files entry path ≡ t → slice_get ns number ≡ Some node
    → option_map (type_kind files) t ≡ Some node.kind → t ≡ node.block → HasType files entry path ns number
typed files entry path ns number node None e at kind block = absurd (cc)
typed files entry path ns number node (Some type) e at kind block =
    let same : type_kind files type ≡ node.kind = cc in record { node = node; type = type; at = at; block = sym block; is = e; kind = sym same }

pub type_of_node : {files : List SourceFile} {names : List (List ℕ)} {entry : ℕ} {built : Built} → IsReady files names entry built → (number : ℕ) (path : List ℕ) → IsAt files entry number path
    → HasType files entry path built.nodes number
type_of_node {files = files} {entry = entry} {built = built} ready number path at = let s = spot_node ready.is number (made_at path) at.is in
    typed files entry path built.nodes number s.node (type_at files entry path) refl s.at s.kind s.block

label_law : (names : List (List ℕ)) (entry : ℕ) (g : Ground) → IsGround names entry g → (number : ℕ) (path : List ℕ) (at : Span) → IsAt g.files.now entry number path
    → has_label g number at ≡ has_pin (members g.files.now (type_at g.files.now entry path)) (source_text g.files.now at)
unfolding has_label
label_law names entry g is number path at there = let t = type_of_node is.ready number path there in
    ap (λ (o : Option Node). holds_maybe g.pins.now (option_and_then (λ (n : Node). n.block) o) (source_text g.files.now at)) t.at
    ∙ ap (λ (o : Option ℕ). holds_maybe g.pins.now o (source_text g.files.now at)) t.block
    ∙ is.pins.each number t.type t.node (source_text g.files.now at) t.at t.block
    ∙ ap (λ (o : Option ℕ). has_pin (members g.files.now o) (source_text g.files.now at)) (sym t.is)

either_law : (files : List SourceFile) (entry : ℕ) (path : List ℕ) (n m : Named) (at : Span) (b c : Bool) → m ≡ n → c ≡ b
    → IsFound files entry (if b then pin_of path n else lost at) (if c then found.Pin m else found.Lost at)
either_law files entry path n m at true true e s = e
either_law files entry path n m at false false e s = refl
either_law files entry path n m at true false e s = absurd (cc)
either_law files entry path n m at false true e s = absurd (cc)

member_law : (names : List (List ℕ)) (entry : ℕ) (g : Ground) → IsGround names entry g → (path : List ℕ) (at : Span) (n m : Named) (k : Kind) (number node : ℕ) (s : Sort)
    → m ≡ n → s ≡ sort_of k → HasKind (nodes g.files.now entry) path n.name.0 k node
    → IsFound g.files.now entry (pin_found g.files.now entry at (member_of path n k)) (pin_in g at (found.Member number m node s))
member_law names entry g is path at n m signal number node s e same has = subst (λ (s : Sort). IsFound g.files.now entry (lost at) (ground.pin_of g m node s at)) (sym same) refl
member_law names entry g is path at n m (instance type) number node s e same has =
    subst (λ (s : Sort). IsFound g.files.now entry (pin_found g.files.now entry at (member_of path n (instance type))) (ground.pin_of g m node s at)) (sym same)
    (either_law g.files.now entry (n.name.0 ∷ path) n m at (has_pin (members g.files.now (type_at g.files.now entry (n.name.0 ∷ path))) (source_text g.files.now at)) (has_label g node at) e
    (label_law names entry g is node (n.name.0 ∷ path) at (record { is = has })))
member_law names entry g is path at n m param number node s e same has = subst (λ (s : Sort). IsFound g.files.now entry (lost at) (ground.pin_of g m node s at)) (sym same) refl

pin_law : (names : List (List ℕ)) (entry : ℕ) (g : Ground) → IsGround names entry g → (at : Span) (f : paths.Found) (r : Found) → IsFound g.files.now entry f r
    → IsFound g.files.now entry (pin_found g.files.now entry at f) (pin_in g at r)
pin_law names entry g is at (lost a) (found.Lost b) h = h
pin_law names entry g is at (free path n) (found.Free number m) h = ap (λ (x : Named). x.at) h.0
pin_law names entry g is at (member_of path n k) (found.Member number m node s) h = member_law names entry g is path at n m k number node s h.0 h.2 h.3
pin_law names entry g is at (pin_of path n) (found.Pin m) h = refl
pin_law names entry g is at (lost a) (found.Free number m) h = absurd h
pin_law names entry g is at (lost a) (found.Member number m node s) h = absurd h
pin_law names entry g is at (lost a) (found.Pin m) h = absurd h
pin_law names entry g is at (free path n) (found.Lost b) h = absurd h
pin_law names entry g is at (free path n) (found.Member number m node s) h = absurd h
pin_law names entry g is at (free path n) (found.Pin m) h = absurd h
pin_law names entry g is at (member_of path n k) (found.Lost b) h = absurd h
pin_law names entry g is at (member_of path n k) (found.Free number m) h = absurd h
pin_law names entry g is at (member_of path n k) (found.Pin m) h = absurd h
pin_law names entry g is at (pin_of path n) (found.Lost b) h = absurd h
pin_law names entry g is at (pin_of path n) (found.Free number m) h = absurd h
pin_law names entry g is at (pin_of path n) (found.Member number m node s) h = absurd h

last_law : (names : List (List ℕ)) (entry : ℕ) (g : Ground) → IsGround names entry g → (whole : Span) (ats : List Span) (f : paths.Found) (r : Found) → IsFound g.files.now entry f r
    → IsFound g.files.now entry (ended g.files.now entry whole ats f) (last_in g whole ats r)
last_law names entry g is whole [] f r h = refl
last_law names entry g is whole (at ∷ more) f r h = pin_law names entry g is at f r h

end_law : (names : List (List ℕ)) (entry : ℕ) (g : Ground) → IsGround names entry g → (whole : Span) (pin : Option TokenKind) (f : paths.Found) (r : Found) → IsFound g.files.now entry f r
    → IsFound g.files.now entry (pin_ended g.files.now entry whole pin f) (ended_in g whole pin r)
end_law names entry g is whole None f r h = h
end_law names entry g is whole (Some kind) f r h = last_law names entry g is whole (number_place kind) f r h

pub paths_are_found : PathsAreFound
unfolding found_in
paths_are_found names entry number g path p is at =
    end_law names entry g is p.at p.pin (steps_found g.files.now entry path p.at p.steps) (steps_in g.built.now number p.at p.steps)
    (steps_law g.files.now names entry g.built.now is.ready number path p.at p.steps at)
