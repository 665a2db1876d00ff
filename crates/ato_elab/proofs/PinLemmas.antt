-- One pin, one member, one type more.
use Rattle.std.proofs.Common.{◌≡◌, ◌<◌, ◌≤◌, ℕ, ◌+◌, Bool, true, false, ◌&&◌, ◌||◌, cond, nat_eq, List, [], ◌∷◌, ◌++◌, Option, Some, length, get_or, take, refl, sym, ap, ◌∙◌, append-nil, Bor, arith}
use Rattle.std.specs.Prelude.{map, slice_get, option_to_list, Result, Ok, Err, OnOk, not}
use Rattle.std.specs.List.{list_any}
use Rattle.std.specs.Str.{bytes_eq}
use Rattle.std.proofs.lemmas.Bool.{eqb-true, eqb-false, eq-eqb}
use Rattle.std.proofs.lemmas.List.{take_all}
use Rattle.std.proofs.lemmas.List.Folds.{list_any-append}
use Rattle.std.proofs.lemmas.Option.{same_Some, slice_get_read}
use Rattle.std.proofs.lemmas.Slice.Eq.{bytes_eq-Decides}
use Rattle.ato_ast.specs.declared.stmts.Stmt.{Stmt}
use Rattle.ato_files.specs.declared.program.SourceFile.{SourceFile}
use Rattle.ato_instance_tree.specs.declared.tree.Node.{Node}
use Rattle.ato_instance_tree.specs.declared.type_members.Member.{Member}
use Rattle.ato_instance_tree.specs.declared.type_stmts.StmtAt.{StmtAt}
use Rattle.ato_instance_tree.specs.Kept.{located_of, stmt_of, member_of}
use Rattle.ato_instance_tree.specs.Members.{members, members_among}
use Rattle.ato_instance_tree.specs.Members as specs
use Rattle.ato_instance_tree.specs.Paths.{has_pin, is_pin_of}
use Rattle.ato_instance_tree.specs.Types.{Located, type_stmts}
use Rattle.ato_elab.specs.Pins.{has_type}
use Rattle.ato_elab.proofs.WayLemmas.{map_at}

-- ---- one pin

is_key : ℕ → List ℕ → ℕ × Bor (List ℕ) → Bool
is_key type text key = nat_eq type key.0 && bytes_eq text key.1.now

both : (a b : Bool) → (a && b) ≡ true → (a ≡ true) × (b ≡ true)
both true b e = (refl, e)
both false b e = absurd (cc)

swapped : (a b : Bool) → (a || (b || false)) ≡ (b || a)
swapped true true = refl
swapped true false = refl
swapped false true = refl
swapped false false = refl

kept_case : (same held : Bool) → (same ≡ true → held ≡ true) → held ≡ (same || held)
kept_case true held h = h refl
kept_case false held h = refl

-- the labels with one more, if it is new
pub with_pin : (keys : List (ℕ × Bor (List ℕ))) (k : ℕ × Bor (List ℕ)) (type : ℕ) (other : List ℕ)
    → list_any (λ key. nat_eq type key.0 && bytes_eq other key.1.now) (cond (list_any (λ key. nat_eq k.0 key.0 && bytes_eq k.1.now key.1.now) keys) keys (keys ++ k ∷ []))
    ≡ ((nat_eq type k.0 && bytes_eq other k.1.now) || list_any (λ key. nat_eq type key.0 && bytes_eq other key.1.now) keys)
unfolding is_key
with_pin keys k type other = by (list_any (is_key k.0 k.1.now) keys) refl
  where
    same_keys : (nat_eq type k.0 && bytes_eq other k.1.now) ≡ true → list_any (is_key type other) keys ≡ list_any (is_key k.0 k.1.now) keys
    same_keys e = let two = both (nat_eq type k.0) (bytes_eq other k.1.now) e in
        ap (λ (n : ℕ). list_any (is_key n other) keys) (eqb-true type k.0 two.0) ∙ ap (λ (text : List ℕ). list_any (is_key k.0 text) keys) ((bytes_eq-Decides other k.1.now).0 two.1)

    by : (b : Bool) → list_any (is_key k.0 k.1.now) keys ≡ b → list_any (is_key type other) (cond b keys (keys ++ k ∷ [])) ≡ ((nat_eq type k.0 && bytes_eq other k.1.now) || list_any (is_key type other) keys)
    by true e = kept_case (nat_eq type k.0 && bytes_eq other k.1.now) (list_any (is_key type other) keys) (λ s. same_keys s ∙ e)
    by false e = list_any-append (is_key type other) keys (k ∷ []) ∙ swapped (list_any (is_key type other) keys) (nat_eq type k.0 && bytes_eq other k.1.now)

-- ---- one member

or_nil : (a b : Bool) → (a || (b || false)) ≡ (a || b)
or_nil true b = refl
or_nil false true = refl
or_nil false false = refl

pin_more : (found : List Member) (i : ℕ) (d : Member) (text : List ℕ) → i < length found
    → has_pin (map member_of (take (i + 1) found)) text ≡ (has_pin (map member_of (take i found)) text || is_pin_of text (member_of (get_or found i d)))
pin_more found i d text h = ap (λ (ms : List specs.Member). has_pin ms text) (sym (map_at member_of [] found i d h))
    ∙ list_any-append (is_pin_of text) (map member_of (take i found)) (member_of (get_or found i d) ∷ [])
    ∙ or_nil (has_pin (map member_of (take i found)) text) (is_pin_of text (member_of (get_or found i d)))

joined : (type old pin : Bool) (before : Bool) → ((type && pin) || ((type && old) || before)) ≡ ((type && (old || pin)) || before)
joined true true true b = refl
joined true true false b = refl
joined true false true b = refl
joined true false false b = refl
joined false old pin b = refl

pub member_more : (found : List Member) (i : ℕ) (d : Member) (text : List ℕ) (type before now new : Bool) → i < length found
    → now ≡ ((type && has_pin (map member_of (take i found)) text) || before) → new ≡ ((type && is_pin_of text (member_of (get_or found i d))) || now)
    → new ≡ ((type && has_pin (map member_of (take (i + 1) found)) text) || before)
member_more found i d text type before now new h a b =
    b ∙ ap (λ (x : Bool). (type && is_pin_of text (member_of (get_or found i d))) || x) a
    ∙ joined type (has_pin (map member_of (take i found)) text) (is_pin_of text (member_of (get_or found i d))) before
    ∙ ap (λ (x : Bool). (type && x) || before) (sym (pin_more found i d text h))

none_yet : (type before : Bool) → before ≡ ((type && false) || before)
none_yet true b = refl
none_yet false b = refl

pub member_none : (found : List Member) (text : List ℕ) (type before : Bool) → before ≡ ((type && has_pin (map member_of (take 0 found)) text) || before)
member_none found text type before = none_yet type before

pub member_all : (found : List Member) (i : ℕ) (text : List ℕ) (type before now : Bool) → length found ≤ i → now ≡ ((type && has_pin (map member_of (take i found)) text) || before)
    → now ≡ ((type && has_pin (map member_of found) text) || before)
member_all found i text type before now h e = e ∙ ap (λ (ms : List Member). (type && has_pin (map member_of ms) text) || before) (take_all i found h)

-- ---- one type

stmts_of : (all : List StmtAt) → map stmt_of all ≡ map (λ l. l.stmt) (map located_of all)
stmts_of [] = refl
stmts_of (s ∷ all) = ap (λ (ss : List Stmt). s.stmt.now ∷ ss) (stmts_of all)

-- the members of a type, by its statements
pub members_of : (files sliced : List SourceFile) (block : ℕ) (all read : List StmtAt) (found : List Member) → sliced ≡ files → read ≡ all → map located_of all ≡ type_stmts files block
    → map member_of found ≡ members_among sliced (map stmt_of read) → map member_of found ≡ members files (Some block)
members_of files sliced block all read found same_files same_stmts e f = f ∙ ap (λ (fs : List SourceFile). members_among fs (map stmt_of read)) same_files
    ∙ ap (members_among files) (ap (map stmt_of) same_stmts ∙ stmts_of all ∙ ap (map (λ (l : Located). l.stmt)) (e ∙ sym (append-nil (type_stmts files block))))

-- ---- types that were met

met_both : (same met pins at : Bool) → (same ≡ true → at ≡ pins) → ((same && at) || (met && pins)) ≡ ((same || met) && pins)
met_both true met true at h = ap (λ (x : Bool). x || (met && true)) (h refl)
met_both true true false at h = ap (λ (x : Bool). x || false) (h refl)
met_both true false false at h = ap (λ (x : Bool). x || false) (h refl)
met_both false met pins at h = refl

-- a type that is new
pub new_type : (files : List SourceFile) (type block : ℕ) (text : List ℕ) (before met met_now now : Bool) → before ≡ (met && has_pin (members files (Some type)) text)
    → met_now ≡ (nat_eq type block || met) → now ≡ ((nat_eq type block && has_pin (members files (Some block)) text) || before)
    → now ≡ (met_now && has_pin (members files (Some type)) text)
new_type files type block text before met met_now now a b e =
    e ∙ ap (λ (x : Bool). (nat_eq type block && has_pin (members files (Some block)) text) || x) a
    ∙ met_both (nat_eq type block) met (has_pin (members files (Some type)) text) (has_pin (members files (Some block)) text)
    (λ s. ap (λ (t : ℕ). has_pin (members files (Some t)) text) (sym (eqb-true type block s)))
    ∙ ap (λ (x : Bool). x && has_pin (members files (Some type)) text) (sym b)

same_met : (same met : Bool) → (same ≡ true → met ≡ true) → met ≡ (same || met)
same_met true met h = h refl
same_met false met h = refl

-- a type that was met
pub old_type : (types : List ℕ) (type block : ℕ) → list_any (nat_eq block) types ≡ true → list_any (nat_eq type) types ≡ (nat_eq type block || list_any (nat_eq type) types)
old_type types type block e = same_met (nat_eq type block) (list_any (nat_eq type) types) (λ s. ap (λ (t : ℕ). list_any (nat_eq t) types) (eqb-true type block s) ∙ e)

met_add : (types : List ℕ) (type block : ℕ) → list_any (nat_eq type) (types ++ block ∷ []) ≡ (nat_eq type block || list_any (nat_eq type) types)
met_add types type block = list_any-append (nat_eq type) types (block ∷ []) ∙ swapped (list_any (nat_eq type) types) (nat_eq type block)

-- the types with one more, if it is new
pub with_type : (types : List ℕ) (block type : ℕ) → list_any (nat_eq type) (cond (list_any (nat_eq block) types) types (types ++ block ∷ [])) ≡ (nat_eq type block || list_any (nat_eq type) types)
with_type types block type = by (list_any (nat_eq block) types) refl
  where
    by : (b : Bool) → list_any (nat_eq block) types ≡ b → list_any (nat_eq type) (cond b types (types ++ block ∷ [])) ≡ (nat_eq type block || list_any (nat_eq type) types)
    by true e = old_type types type block e
    by false e = met_add types type block

not_false : (b : Bool) → not b ≡ false → b ≡ true
not_false true e = refl
not_false false e = absurd (cc)

-- a type that was met stays met, and no other is
pub none_new : (types : List ℕ) (block type : ℕ) (is_new : Bool) → is_new ≡ not (list_any (nat_eq block) types) → is_new ≡ false
    → list_any (nat_eq type) types ≡ list_any (nat_eq type) (cond (list_any (nat_eq block) types) types (types ++ block ∷ []))
none_new types block type is_new added old =
    let there : list_any (nat_eq block) types ≡ true = not_false (list_any (nat_eq block) types) (sym added ∙ old) in
    ap (λ (b : Bool). list_any (nat_eq type) (cond b types (types ++ block ∷ []))) (sym there)

-- ---- nodes one by one

type_is : (type : ℕ) (n : Node) → n.block ≡ Some type → has_type type n ≡ true
type_is type n e = ap (λ (o : Option ℕ). list_any (nat_eq type) (option_to_list o)) e ∙ ap (λ (b : Bool). b || false) (eq-eqb type type refl)

or_later : (a b : Bool) → b ≡ true → (a || b) ≡ true
or_later true b e = refl
or_later false b e = e

-- the types of the nodes before one more
pub node_more : (ns : List Node) (i : ℕ) (x : Node) (number type : ℕ) (n : Node) (old new : Bool) → i < length ns → x ≡ get_or ns i x → new ≡ (has_type type x || old)
    → (number < i → old ≡ true) → number < i + 1 → slice_get ns number ≡ Some n → n.block ≡ Some type → new ≡ true
node_more ns i x number type n old new h read e before less at is = by (nat_eq number i) refl
  where
    by : (b : Bool) → nat_eq number i ≡ b → new ≡ true
    by true s =
        let here : Some n ≡ Some x = sym at ∙ ap (slice_get ns) (eqb-true number i s) ∙ slice_get_read ns (length ns) i x refl h read in
        let same : n ≡ x = same_Some n x here in
        e ∙ ap (λ (b : Bool). b || old) (type_is type x (ap (λ (m : Node). m.block) (sym same) ∙ is))
    by false s = let other = eqb-false number i s in e ∙ or_later (has_type type x) old (before (omega arith))

pub on_ok : {T E : Type 0} {A B : Type 0} (r : Result T E) → OnOk r A → (A → B) → OnOk r B
on_ok (Ok x) h f = f h
on_ok (Err e) h f = tt
