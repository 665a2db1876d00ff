-- The members of a type are what its statements declare.
use Rattle.std.proofs.Common.{◌≡◌, ℕ, Bool, true, false, true≢false, ◌||◌, ◌==◌, if◌then◌else◌, List, [], ◌∷◌, ◌++◌, Option, Some, None, refl, ap, sym, subst, ◌∙◌}
use Rattle.std.specs.Prelude.{find}
use Rattle.std.specs.List.{flat_map, list_any}
use Rattle.std.specs.Option.{option_map, option_or}
use Rattle.std.specs.Str.{bytes_eq}
use Rattle.std.proofs.lemmas.Slice.Eq.{bytes_eq-Decides}
use Rattle.std.proofs.lemmas.Bool.{eqb-true, eqb-false, ne_eqb}
use Rattle.std.proofs.lemmas.List.Folds.{find-append, list_any-append}
use Rattle.ato_ast.specs.declared.names.Named.{Named}
use Rattle.ato_ast.specs.declared.paths.Label.{Label}
use Rattle.ato_ast.specs.declared.paths.Point.{Point}
use Rattle.ato_ast.specs.declared.paths.Point.TheVariants as point
use Rattle.ato_ast.specs.declared.stmts.Stmt.{Stmt}
use Rattle.ato_ast.specs.declared.stmts.Stmt.TheVariants as stmt
use Rattle.ato_files.specs.declared.program.SourceFile.{SourceFile}
use Rattle.ato_files.specs.Members.{Kind, signal, instance, param, Decl, decls, points, point_decls, point_pins, pins, assigned_names, named_as, member}
use Rattle.ato_instance_tree.specs.Types.{stmts_of_type}
use Rattle.ato_instance_tree.specs.Members.{Member, pin, named, same_member, label_text, firsts, point_members, is_declared, stmt_members, members}
use Rattle.ato_instance_tree.specs.Paths.{is_pin_of, has_pin}
use Rattle.ato_instance_tree.specs.Laws.{named_kind, AreMembers}

-- ---- the first of equal members counts

-- The member has this name.
abbrev has_name : ℕ → Member → Bool
has_name name (pin text) = false
has_name name (named n k) = n.name.0 == name

pub or_falses : (a b : Bool) → (a || b) ≡ false → (a ≡ false) × (b ≡ false)
or_falses true b h = absurd (true≢false h)
or_falses false b h = (refl, h)

or_false : (a b : Bool) → a ≡ false → b ≡ false → (a || b) ≡ false
or_false true b h k = absurd (true≢false h)
or_false false b h k = k

pub turned_false : (a b : ℕ) → (a == b) ≡ false → (b == a) ≡ false
turned_false a b h = ne_eqb b a (λ e. eqb-false a b h (sym e))

same_has : (a : Named) (k : Kind) (name : ℕ) (m : Member) → a.name.0 ≡ name → has_name name m ≡ false → same_member (named a k) m ≡ false
same_has a k name (pin text) e h = refl
same_has a k name (named b l) e h = subst (λ x. (x == b.name.0) ≡ false) (sym e) (turned_false b.name.0 name h)

none_same : (a : Named) (k : Kind) (name : ℕ) (seen : List Member) → a.name.0 ≡ name → list_any (has_name name) seen ≡ false → list_any (same_member (named a k)) seen ≡ false
none_same a k name [] e h = refl
none_same a k name (m ∷ seen) e h =
    let parts = or_falses (has_name name m) (list_any (has_name name) seen) h in
    or_false (same_member (named a k) m) (list_any (same_member (named a k)) seen) (same_has a k name m e parts.0) (none_same a k name seen e parts.1)

past_pin : (name : ℕ) (b : Bool) (text : List ℕ) (rest : List Member) → named_kind ((if b then [] else pin text ∷ []) ++ rest) name ≡ named_kind rest name
past_pin name true text rest = refl
past_pin name false text rest = refl

past_other : (name : ℕ) (b : Bool) (n : Named) (k : Kind) (rest : List Member) → (n.name.0 == name) ≡ false → named_kind ((if b then [] else named n k ∷ []) ++ rest) name ≡ named_kind rest name
past_other name true n k rest e = refl
past_other name false n k rest e = ap (λ t. if t then Some k else named_kind rest name) e

here : (name : ℕ) (b : Bool) (n : Named) (k : Kind) (rest : List Member) → (n.name.0 == name) ≡ true → b ≡ false → named_kind ((if b then [] else named n k ∷ []) ++ rest) name ≡ Some k
here name true n k rest e h = absurd (true≢false h)
here name false n k rest e h = ap (λ t. if t then Some k else named_kind rest name) e

other_alone : (name : ℕ) (b : Bool) (n : Named) (k : Kind) → (n.name.0 == name) ≡ false → named_kind (if b then [] else named n k ∷ []) name ≡ None
other_alone name true n k e = refl
other_alone name false n k e = ap (λ t. if t then Some k else None) e

here_alone : (name : ℕ) (b : Bool) (n : Named) (k : Kind) → (n.name.0 == name) ≡ true → b ≡ false → named_kind (if b then [] else named n k ∷ []) name ≡ Some k
here_alone name true n k e h = absurd (true≢false h)
here_alone name false n k e h = ap (λ t. if t then Some k else None) e

firsts_decided : (name : ℕ) (seen : List Member) (n : Named) (k : Kind) (ms : List Member) → list_any (has_name name) seen ≡ false
    → (list_any (has_name name) (named n k ∷ seen) ≡ false → named_kind (firsts (named n k ∷ seen) ms) name ≡ named_kind ms name)
    → (t : Bool) → (n.name.0 == name) ≡ t → named_kind (firsts seen (named n k ∷ ms)) name ≡ named_kind (named n k ∷ ms) name
firsts_decided name seen n k ms h more true e =
    here name (list_any (same_member (named n k)) seen) n k (firsts (named n k ∷ seen) ms) e (none_same n k name seen (eqb-true n.name.0 name e) h)
    ∙ sym (ap (λ t. if t then Some k else named_kind ms name) e)
firsts_decided name seen n k ms h more false e =
    past_other name (list_any (same_member (named n k)) seen) n k (firsts (named n k ∷ seen) ms) e
    ∙ more (or_false (n.name.0 == name) (list_any (has_name name) seen) e h)
    ∙ sym (ap (λ t. if t then Some k else named_kind ms name) e)

firsts_named : (name : ℕ) (seen ms : List Member) → list_any (has_name name) seen ≡ false → named_kind (firsts seen ms) name ≡ named_kind ms name
firsts_named name seen [] h = refl
firsts_named name seen (pin text ∷ ms) h = past_pin name (list_any (same_member (pin text)) seen) text (firsts (pin text ∷ seen) ms) ∙ firsts_named name (pin text ∷ seen) ms h
firsts_named name seen (named n k ∷ ms) h = firsts_decided name seen n k ms h (firsts_named name (named n k ∷ seen) ms) (n.name.0 == name) refl

-- ---- what statements declare

abbrev kind_among : List Decl → ℕ → Option Kind
kind_among ds name = option_map (λ d. d.kind) (find (named_as name) ds)

abbrev param_among : List Named → ℕ → Option Kind
param_among ns name = option_map (λ n. param) (find (λ n. n.name.0 == name) ns)

mapped_or : {X Y : Type 0} (f : X → Y) (o p : Option X) → option_map f (option_or o p) ≡ option_or (option_map f o) (option_map f p)
mapped_or f None p = refl
mapped_or f (Some x) p = refl

kind_append : (xs ys : List Decl) (name : ℕ) → kind_among (xs ++ ys) name ≡ option_or (kind_among xs name) (kind_among ys name)
kind_append xs ys name = ap (option_map (λ d. d.kind)) (find-append (named_as name) xs ys) ∙ mapped_or (λ d. d.kind) (find (named_as name) xs) (find (named_as name) ys)

param_append : (xs ys : List Named) (name : ℕ) → param_among (xs ++ ys) name ≡ option_or (param_among xs name) (param_among ys name)
param_append xs ys name = ap (option_map (λ (n : Named). param)) (find-append (λ (n : Named). n.name.0 == name) xs ys)
    ∙ mapped_or (λ (n : Named). param) (find (λ (n : Named). n.name.0 == name) xs) (find (λ (n : Named). n.name.0 == name) ys)

or_if : (b : Bool) (x : Kind) (o p q : Option Kind) → o ≡ option_or p q → (if b then Some x else o) ≡ option_or (if b then Some x else p) q
or_if true x o p q e = refl
or_if false x o p q e = e

named_append : (xs ys : List Member) (name : ℕ) → named_kind (xs ++ ys) name ≡ option_or (named_kind xs name) (named_kind ys name)
named_append [] ys name = refl
named_append (pin text ∷ xs) ys name = named_append xs ys name
named_append (named n k ∷ xs) ys name = or_if (n.name.0 == name) k (named_kind (xs ++ ys) name) (named_kind xs name) (named_kind ys name) (named_append xs ys name)

mapped_if : {X Y : Type 0} (f : X → Y) (b : Bool) (x : X) → (if b then Some (f x) else None) ≡ option_map f (if b then Some x else None)
mapped_if f true x = refl
mapped_if f false x = refl

one_declared : (name : ℕ) (d : Decl) → named_kind (named d.name d.kind ∷ []) name ≡ kind_among (d ∷ []) name
one_declared name d = mapped_if (λ (d : Decl). d.kind) (d.name.name.0 == name) d

one_point : (files : List SourceFile) (name : ℕ) (p : Point) → named_kind (point_members files p) name ≡ kind_among (point_decls p) name
one_point files name (point.Signal n at) = one_declared name (record { name = n; kind = signal })
one_point files name (point.Pin l at) = refl

of_points : (files : List SourceFile) (name : ℕ) (ps : List Point) → named_kind (flat_map (point_members files) ps) name ≡ kind_among (flat_map point_decls ps) name
of_points files name [] = refl
of_points files name (p ∷ ps) = named_append (point_members files p) (flat_map (point_members files) ps) name
    ∙ ap (λ o. option_or o (named_kind (flat_map (point_members files) ps) name)) (one_point files name p)
    ∙ ap (option_or (kind_among (point_decls p) name)) (of_points files name ps)
    ∙ sym (kind_append (point_decls p) (flat_map point_decls ps) name)

-- ---- where a name is declared, assignments give no member of it

abbrev one_assigned : List Stmt → Named → List Member
one_assigned all n = if is_declared all n.name.0 then [] else named n param ∷ []

no_member : (all : List Stmt) (name : ℕ) (n : Named) → is_declared all name ≡ true → (t : Bool) → (n.name.0 == name) ≡ t → named_kind (one_assigned all n) name ≡ None
no_member all name n h true e = ap (λ b. named_kind (if b then [] else named n param ∷ []) name) (ap (is_declared all) (eqb-true n.name.0 name e) ∙ h)
no_member all name n h false e = other_alone name (is_declared all n.name.0) n param e

no_members : (all : List Stmt) (name : ℕ) (ns : List Named) → is_declared all name ≡ true → named_kind (flat_map (one_assigned all) ns) name ≡ None
no_members all name [] h = refl
no_members all name (n ∷ ns) h = named_append (one_assigned all n) (flat_map (one_assigned all) ns) name
    ∙ ap (λ o. option_or o (named_kind (flat_map (one_assigned all) ns) name)) (no_member all name n h (n.name.0 == name) refl)
    ∙ no_members all name ns h

declared_stmt : (files : List SourceFile) (all : List Stmt) (name : ℕ) (s : Stmt) → is_declared all name ≡ true → named_kind (stmt_members files all s) name ≡ kind_among (decls s) name
declared_stmt files all name (stmt.Pass at) h = refl
declared_stmt files all name (stmt.Docs text) h = refl
declared_stmt files all name (stmt.Point p e at) h = of_points files name (points (stmt.Point p e at))
declared_stmt files all name (stmt.Connect p e at) h = of_points files name (points (stmt.Connect p e at))
declared_stmt files all name (stmt.Replace p type at) h = refl
declared_stmt files all name (stmt.Assign p v at) h = no_members all name (assigned_names (stmt.Assign p v at)) h
declared_stmt files all name (stmt.Make n type at) h = one_declared name (record { name = n; kind = instance type })
declared_stmt files all name (stmt.Declare n unit v at) h = one_declared name (record { name = n; kind = param })
declared_stmt files all name (stmt.Assert x c at) h = refl

declared_stmts : (files : List SourceFile) (all : List Stmt) (name : ℕ) (ss : List Stmt) → is_declared all name ≡ true
    → named_kind (flat_map (stmt_members files all) ss) name ≡ kind_among (flat_map decls ss) name
declared_stmts files all name [] h = refl
declared_stmts files all name (s ∷ ss) h = named_append (stmt_members files all s) (flat_map (stmt_members files all) ss) name
    ∙ ap (λ o. option_or o (named_kind (flat_map (stmt_members files all) ss) name)) (declared_stmt files all name s h)
    ∙ ap (option_or (kind_among (decls s) name)) (declared_stmts files all name ss h)
    ∙ sym (kind_append (decls s) (flat_map decls ss) name)

-- ---- where it is not, they give all members of it

none_among : (name : ℕ) (ds : List Decl) → list_any (named_as name) ds ≡ false → kind_among ds name ≡ None
none_among name [] h = refl
none_among name (d ∷ ds) h =
    let parts = or_falses (named_as name d) (list_any (named_as name) ds) h in
    ap (λ b. option_map (λ (d : Decl). d.kind) (if b then Some d else find (named_as name) ds)) parts.0 ∙ none_among name ds parts.1

is_param : (all : List Stmt) (name : ℕ) (n : Named) → is_declared all name ≡ false → (t : Bool) → (n.name.0 == name) ≡ t → named_kind (one_assigned all n) name ≡ param_among (n ∷ []) name
is_param all name n h true e = here_alone name (is_declared all n.name.0) n param e (ap (is_declared all) (eqb-true n.name.0 name e) ∙ h)
    ∙ ap (λ t. option_map (λ (n : Named). param) (if t then Some n else None)) (sym e)
is_param all name n h false e = other_alone name (is_declared all n.name.0) n param e
    ∙ ap (λ t. option_map (λ (n : Named). param) (if t then Some n else None)) (sym e)

are_params : (all : List Stmt) (name : ℕ) (ns : List Named) → is_declared all name ≡ false → named_kind (flat_map (one_assigned all) ns) name ≡ param_among ns name
are_params all name [] h = refl
are_params all name (n ∷ ns) h = named_append (one_assigned all n) (flat_map (one_assigned all) ns) name
    ∙ ap (λ o. option_or o (named_kind (flat_map (one_assigned all) ns) name)) (is_param all name n h (n.name.0 == name) refl)
    ∙ ap (option_or (param_among (n ∷ []) name)) (are_params all name ns h)
    ∙ sym (param_append (n ∷ []) ns name)

assigned_stmt : (files : List SourceFile) (all : List Stmt) (name : ℕ) (s : Stmt) → is_declared all name ≡ false → list_any (named_as name) (decls s) ≡ false
    → named_kind (stmt_members files all s) name ≡ param_among (assigned_names s) name
assigned_stmt files all name (stmt.Pass at) h k = refl
assigned_stmt files all name (stmt.Docs text) h k = refl
assigned_stmt files all name (stmt.Point p e at) h k = of_points files name (points (stmt.Point p e at)) ∙ none_among name (decls (stmt.Point p e at)) k
assigned_stmt files all name (stmt.Connect p e at) h k = of_points files name (points (stmt.Connect p e at)) ∙ none_among name (decls (stmt.Connect p e at)) k
assigned_stmt files all name (stmt.Replace p type at) h k = refl
assigned_stmt files all name (stmt.Assign p v at) h k = are_params all name (assigned_names (stmt.Assign p v at)) h
assigned_stmt files all name (stmt.Make n type at) h k = one_declared name (record { name = n; kind = instance type }) ∙ none_among name (decls (stmt.Make n type at)) k
assigned_stmt files all name (stmt.Declare n unit v at) h k = one_declared name (record { name = n; kind = param }) ∙ none_among name (decls (stmt.Declare n unit v at)) k
assigned_stmt files all name (stmt.Assert x c at) h k = refl

assigned_stmts : (files : List SourceFile) (all : List Stmt) (name : ℕ) (ss : List Stmt) → is_declared all name ≡ false → list_any (named_as name) (flat_map decls ss) ≡ false
    → named_kind (flat_map (stmt_members files all) ss) name ≡ param_among (flat_map assigned_names ss) name
assigned_stmts files all name [] h k = refl
assigned_stmts files all name (s ∷ ss) h k =
    let parts = or_falses (list_any (named_as name) (decls s)) (list_any (named_as name) (flat_map decls ss)) (sym (list_any-append (named_as name) (decls s) (flat_map decls ss)) ∙ k) in
    named_append (stmt_members files all s) (flat_map (stmt_members files all) ss) name
    ∙ ap (λ o. option_or o (named_kind (flat_map (stmt_members files all) ss) name)) (assigned_stmt files all name s h parts.0)
    ∙ ap (option_or (param_among (assigned_names s) name)) (assigned_stmts files all name ss h parts.1)
    ∙ sym (param_append (assigned_names s) (flat_map assigned_names ss) name)

-- ---- both together

some_if : (d : Decl) (b t : Bool) (rest : Option Decl) (q : Option Kind) → ((t ≡ true) → option_map (λ d. d.kind) rest ≡ option_or (option_map (λ d. d.kind) rest) q)
    → (b || t) ≡ true → option_map (λ d. d.kind) (if b then Some d else rest) ≡ option_or (option_map (λ d. d.kind) (if b then Some d else rest)) q
some_if d true t rest q more h = refl
some_if d false t rest q more h = more h

found_among : (name : ℕ) (ds : List Decl) (q : Option Kind) → list_any (named_as name) ds ≡ true → kind_among ds name ≡ option_or (kind_among ds name) q
found_among name [] q h = absurd (true≢false (sym h))
found_among name (d ∷ ds) q h = some_if d (named_as name d) (list_any (named_as name) ds) (find (named_as name) ds) q (found_among name ds q) h

all_agree : (files : List SourceFile) (all : List Stmt) (name : ℕ) (t : Bool) → is_declared all name ≡ t → named_kind (flat_map (stmt_members files all) all) name ≡ member all name
all_agree files all name true h = declared_stmts files all name all h ∙ found_among name (flat_map decls all) (param_among (flat_map assigned_names all) name) h
all_agree files all name false h = assigned_stmts files all name all h h ∙ sym (ap (λ o. option_or o (param_among (flat_map assigned_names all) name)) (none_among name (flat_map decls all) h))

names_agree : (files : List SourceFile) (type : Option ℕ) (name : ℕ) → named_kind (members files type) name ≡ member (stmts_of_type files type) name
names_agree files type name =
    let all = stmts_of_type files type in
    firsts_named name [] (flat_map (stmt_members files all) all) refl ∙ all_agree files all name (is_declared all name) refl

-- ---- pins

same_label : (text label : List ℕ) (m : Member) → text ≡ label → is_pin_of text m ≡ false → same_member (pin label) m ≡ false
same_label text label (pin other) e h = ap (λ t. bytes_eq t other) (sym e) ∙ h
same_label text label (named n k) e h = refl

none_labelled : (text label : List ℕ) (seen : List Member) → bytes_eq text label ≡ true → has_pin seen text ≡ false → list_any (same_member (pin label)) seen ≡ false
none_labelled text label [] e h = refl
none_labelled text label (m ∷ seen) e h =
    let parts = or_falses (is_pin_of text m) (has_pin seen text) h in
    or_false (same_member (pin label) m) (list_any (same_member (pin label)) seen) (same_label text label m ((bytes_eq-Decides text label).0 e) parts.0) (none_labelled text label seen e parts.1)

pinned_decided : (text : List ℕ) (seen : List Member) (label : List ℕ) (ms : List Member) → has_pin seen text ≡ false
    → (has_pin (pin label ∷ seen) text ≡ false → has_pin (firsts (pin label ∷ seen) ms) text ≡ has_pin ms text)
    → (t : Bool) → bytes_eq text label ≡ t → (b : Bool) → list_any (same_member (pin label)) seen ≡ b
    → has_pin ((if b then [] else pin label ∷ []) ++ firsts (pin label ∷ seen) ms) text ≡ has_pin (pin label ∷ ms) text
pinned_decided text seen label ms h more true e true f = absurd (true≢false (sym f ∙ none_labelled text label seen e h))
pinned_decided text seen label ms h more true e false f = ap (λ t. t || has_pin (firsts (pin label ∷ seen) ms) text) e ∙ sym (ap (λ t. t || has_pin ms text) e)
pinned_decided text seen label ms h more false e true f = more (or_false (bytes_eq text label) (has_pin seen text) e h) ∙ sym (ap (λ t. t || has_pin ms text) e)
pinned_decided text seen label ms h more false e false f = ap (λ t. t || has_pin (firsts (pin label ∷ seen) ms) text) e
    ∙ more (or_false (bytes_eq text label) (has_pin seen text) e h) ∙ sym (ap (λ t. t || has_pin ms text) e)

past_name : (text : List ℕ) (b : Bool) (n : Named) (k : Kind) (rest : List Member) → has_pin ((if b then [] else named n k ∷ []) ++ rest) text ≡ has_pin rest text
past_name text true n k rest = refl
past_name text false n k rest = refl

firsts_pinned : (text : List ℕ) (seen ms : List Member) → has_pin seen text ≡ false → has_pin (firsts seen ms) text ≡ has_pin ms text
firsts_pinned text seen [] h = refl
firsts_pinned text seen (pin label ∷ ms) h =
    pinned_decided text seen label ms h (firsts_pinned text (pin label ∷ seen) ms) (bytes_eq text label) refl (list_any (same_member (pin label)) seen) refl
firsts_pinned text seen (named n k ∷ ms) h = past_name text (list_any (same_member (named n k)) seen) n k (firsts (named n k ∷ seen) ms) ∙ firsts_pinned text (named n k ∷ seen) ms h

abbrev labelled : List SourceFile → List ℕ → Label → Bool
labelled files text l = bytes_eq text (label_text files l)

pin_append : (text : List ℕ) (xs ys : List Member) → has_pin (xs ++ ys) text ≡ (has_pin xs text || has_pin ys text)
pin_append text xs ys = list_any-append (is_pin_of text) xs ys

pins_of_points : (files : List SourceFile) (text : List ℕ) (ps : List Point) → has_pin (flat_map (point_members files) ps) text ≡ list_any (labelled files text) (flat_map point_pins ps)
pins_of_points files text [] = refl
pins_of_points files text (point.Signal n at ∷ ps) = pins_of_points files text ps
pins_of_points files text (point.Pin l at ∷ ps) = ap (λ b. labelled files text l || b) (pins_of_points files text ps)

pins_assigned : (all : List Stmt) (text : List ℕ) (ns : List Named) → has_pin (flat_map (one_assigned all) ns) text ≡ false
pins_assigned all text [] = refl
pins_assigned all text (n ∷ ns) = past_assigned (is_declared all n.name.0) n (flat_map (one_assigned all) ns) ∙ pins_assigned all text ns where
  past_assigned : (b : Bool) (n : Named) (rest : List Member) → has_pin ((if b then [] else named n param ∷ []) ++ rest) text ≡ has_pin rest text
  past_assigned true n rest = refl
  past_assigned false n rest = refl

pins_of_stmt : (files : List SourceFile) (all : List Stmt) (text : List ℕ) (s : Stmt) → has_pin (stmt_members files all s) text ≡ list_any (labelled files text) (pins s)
pins_of_stmt files all text (stmt.Pass at) = refl
pins_of_stmt files all text (stmt.Docs t) = refl
pins_of_stmt files all text (stmt.Point p e at) = pins_of_points files text (points (stmt.Point p e at))
pins_of_stmt files all text (stmt.Connect p e at) = pins_of_points files text (points (stmt.Connect p e at))
pins_of_stmt files all text (stmt.Replace p type at) = refl
pins_of_stmt files all text (stmt.Assign p v at) = pins_assigned all text (assigned_names (stmt.Assign p v at))
pins_of_stmt files all text (stmt.Make n type at) = refl
pins_of_stmt files all text (stmt.Declare n unit v at) = refl
pins_of_stmt files all text (stmt.Assert x c at) = refl

pins_of_stmts : (files : List SourceFile) (all : List Stmt) (text : List ℕ) (ss : List Stmt) → has_pin (flat_map (stmt_members files all) ss) text ≡ list_any (labelled files text) (flat_map pins ss)
pins_of_stmts files all text [] = refl
pins_of_stmts files all text (s ∷ ss) = pin_append text (stmt_members files all s) (flat_map (stmt_members files all) ss)
    ∙ ap (λ b. b || has_pin (flat_map (stmt_members files all) ss) text) (pins_of_stmt files all text s)
    ∙ ap (λ b. list_any (labelled files text) (pins s) || b) (pins_of_stmts files all text ss)
    ∙ sym (list_any-append (labelled files text) (pins s) (flat_map pins ss))

pub agree : (files : List SourceFile) (type : Option ℕ) → AreMembers files type
agree files type =
    let all = stmts_of_type files type in
    record {
      names = names_agree files type;
      labels = λ text. firsts_pinned text [] (flat_map (stmt_members files all) all) refl ∙ pins_of_stmts files all text all;
    }
