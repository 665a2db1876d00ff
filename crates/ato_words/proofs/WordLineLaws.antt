-- Words that are read from left to right are told as the relation says, and the other way round.
use Rattle.std.proofs.Common.{◌≡◌, ℕ, Bool, true, false, ◌||◌, List, [], ◌∷◌, ◌++◌, fold, drop, ap, sym, ◌∙◌, refl, subst, append-nil, append_assoc, if◌then◌else◌, Option, Some, None}
use Rattle.std.specs.Prelude.{codes, is_some, unwrap_or, Result, IfOk, IfSome, IfNone, Ok, Err}
use Rattle.std.specs.Bool.{nat_eq}
use Rattle.std.specs.List.{list_any, starts_with}
use Rattle.std.specs.Str.{bytes_eq}
use Rattle.std.proofs.lemmas.Bool.Decides.{Decides-eqb}
use Rattle.std.proofs.lemmas.Slice.Eq.{bytes_eq-Decides, starts_is}
use Rattle.ato_base.specs.declared.memory.NoMemory.{NoMemory}
use Rattle.ato_words.specs.Words.{begins_with_dash, AreTold, no_words, positional, value_apart, value_joined, all_positional, values_of, IsBuildOf, IsCheckOf, default_out, IsBuild, IsCheck, IsJob, IsNoJob}
use Rattle.ato_words.specs.WordLines.{with_out, next_line, line_of, is_read, IsBuildLine, IsCheckLine, IsTaskLine}
use Rattle.ato_words.specs.declared.word_line.Turn.{Turn}
use Rattle.ato_words.specs.declared.word_line.Turn.TheVariants.{Any, Value, Positional, Refused}
use Rattle.ato_words.specs.declared.word_line.WordLine.{WordLine}
use Rattle.ato_words.specs.declared.words.Build.{Build}
use Rattle.ato_words.specs.declared.words.Check.{Check}
use Rattle.ato_words.specs.declared.words.Task.{Task}
use Rattle.ato_words.specs.declared.words.Task.TheVariants as tasks

abbrev state : Turn → List (List ℕ) → Option (List ℕ) → WordLine
state turn ps out = record { turn = turn; positional = ps; out = out }

-- ---- one word

not_dashed : (w : List ℕ) (b : Bool) → begins_with_dash w ≡ false → (b ≡ true → begins_with_dash w ≡ true) → b ≡ false
not_dashed w true h dashed = let bad : ⊥ = cc (dashed refl) in absurd bad
not_dashed w false h dashed = refl

-- a word without a dash in front is no option
no_option : (w : List ℕ) → begins_with_dash w ≡ false → (bytes_eq w (codes "--") ≡ false) × (bytes_eq w (codes "--out") ≡ false) × (starts_with nat_eq w (codes "--out=") ≡ false)
no_option w h = (
  not_dashed w (bytes_eq w (codes "--")) h (λ e. ap begins_with_dash ((bytes_eq-Decides w (codes "--")).0 e)),
  not_dashed w (bytes_eq w (codes "--out")) h (λ e. ap begins_with_dash ((bytes_eq-Decides w (codes "--out")).0 e)),
  not_dashed w (starts_with nat_eq w (codes "--out=")) h (λ e. ap begins_with_dash ((starts_is Decides-eqb w (codes "--out=") (starts_with nat_eq w (codes "--out=")) refl).0 e)),
)

plain_step : (ps : List (List ℕ)) (out : Option (List ℕ)) (w : List ℕ) → begins_with_dash w ≡ false → next_line (state Any ps out) w ≡ state Any (ps ++ w ∷ []) out
plain_step ps out w h =
    let none = no_option w h in
    by (bytes_eq w (codes "--")) (bytes_eq w (codes "--out")) (starts_with nat_eq w (codes "--out=")) (begins_with_dash w) none.0 none.1 none.2 h
  where
    by : (a b c d : Bool) → a ≡ false → b ≡ false → c ≡ false → d ≡ false
        → (if a then state Positional ps out else (if b then state Value ps out else (if c then with_out (state Any ps out) (drop 6 w) else (if d then state Refused ps out else state Any (ps ++ w ∷ []) out)))) ≡ state Any (ps ++ w ∷ []) out
    by false false false false p q r s = refl
    by true b c d p q r s = let bad : ⊥ = cc in absurd bad
    by false true c d p q r s = let bad : ⊥ = cc in absurd bad
    by false false true d p q r s = let bad : ⊥ = cc in absurd bad
    by false false false true p q r s = let bad : ⊥ = cc in absurd bad

out_step : (turn : Turn) (ps : List (List ℕ)) (v : List ℕ) → begins_with_dash v ≡ false → with_out (state turn ps None) v ≡ state Any ps (Some v)
out_step turn ps v h = by (begins_with_dash v) h
  where
    by : (b : Bool) → b ≡ false → (if (b || false) then state Refused ps None else state Any ps (Some v)) ≡ state Any ps (Some v)
    by false e = refl
    by true e = let bad : ⊥ = cc in absurd bad

rest_step : (ps : List (List ℕ)) (out : Option (List ℕ)) (w : List ℕ) → begins_with_dash w ≡ false → next_line (state Positional ps out) w ≡ state Positional (ps ++ w ∷ []) out
rest_step ps out w h = by (begins_with_dash w) h
  where
    by : (b : Bool) → b ≡ false → (if b then state Refused ps out else state Positional (ps ++ w ∷ []) out) ≡ state Positional (ps ++ w ∷ []) out
    by false e = refl
    by true e = let bad : ⊥ = cc in absurd bad

-- ---- from the relation to the reading

or_false : (a b : Bool) → (a || b) ≡ false → (a ≡ false) × (b ≡ false)
or_false true b h = let bad : ⊥ = cc in absurd bad
or_false false b h = (refl, h)

rest_read : (ws ps : List (List ℕ)) (out : Option (List ℕ)) → list_any begins_with_dash ws ≡ false → fold next_line (state Positional ps out) ws ≡ state Positional (ps ++ ws) out
rest_read [] ps out h = ap (λ l. state Positional l out) (sym (append-nil ps))
rest_read (w ∷ ws) ps out h =
    let both = or_false (begins_with_dash w) (list_any begins_with_dash ws) h in
    ap (λ line. fold next_line line ws) (rest_step ps out w both.0) ∙ rest_read ws (ps ++ w ∷ []) out both.1 ∙ ap (λ l. state Positional l out) (append_assoc ps (w ∷ []) ws)

one_value : (given out : Option (List ℕ)) → values_of given ++ [] ≡ values_of out → given ≡ out
one_value None None e = refl
one_value None (Some v) e = let bad : ⊥ = cc in absurd bad
one_value (Some v) None e = let bad : ⊥ = cc in absurd bad
one_value (Some v) (Some w) e = let same : v ≡ w = cc in ap Some same

too_many : (v w : List ℕ) (vs : List (List ℕ)) (out : Option (List ℕ)) → v ∷ w ∷ vs ≡ values_of out → ⊥
too_many v w vs None e = cc
too_many v w vs (Some x) e = cc

-- where words that are told end, once they are read from such a state on
record Ends (ws before : List (List ℕ)) (given : Option (List ℕ)) (ps : List (List ℕ)) (out : Option (List ℕ)) : Type 0 where
  turn : Turn
  read : is_read turn ≡ true
  line : fold next_line (state Any before given) ws ≡ state turn (before ++ ps) out

told_ends : {ws ps vs : List (List ℕ)} → AreTold ws ps vs → (before : List (List ℕ)) (given out : Option (List ℕ)) → values_of given ++ vs ≡ values_of out → Ends ws before given ps out
told_ends no_words before given out e = record {
  turn = Any;
  read = refl;
  line = ap (λ l. state Any l given) (sym (append-nil before)) ∙ ap (state Any (before ++ [])) (one_value given out e);
}
told_ends (positional {w} {ws} {ps} {vs} h rest) before given out e =
    let next = told_ends rest (before ++ w ∷ []) given out e in
    record {
      turn = next.turn;
      read = next.read;
      line = ap (λ line. fold next_line line ws) (plain_step before given w h) ∙ next.line ∙ ap (λ l. state next.turn l out) (append_assoc before (w ∷ []) ps);
    }
told_ends (value_apart {v} {ws} {ps} {vs} h rest) before None out e =
    let next = told_ends rest before (Some v) out e in
    record { turn = next.turn; read = next.read; line = ap (λ line. fold next_line line ws) (out_step Value before v h) ∙ next.line }
told_ends (value_apart {v} {ws} {ps} {vs} h rest) before (Some w) out e = absurd (too_many w v vs out e)
told_ends (value_joined {v} {ws} {ps} {vs} h rest) before None out e =
    let next = told_ends rest before (Some v) out e in
    record { turn = next.turn; read = next.read; line = ap (λ line. fold next_line line ws) (out_step Any before v h) ∙ next.line }
told_ends (value_joined {v} {ws} {ps} {vs} h rest) before (Some w) out e = absurd (too_many w v vs out e)
told_ends (all_positional {ws} h) before given out e = record {
  turn = Positional;
  read = refl;
  line = rest_read ws before given h ∙ ap (state Positional (before ++ ws)) (one_value given out e);
}

-- Words that are told are read, with the same positional words and the same value.
pub record IsReadLine (line : WordLine) (ps : List (List ℕ)) (out : Option (List ℕ)) : Type 0 where
  pub read : is_read line.turn ≡ true
  pub words : line.positional ≡ ps
  pub value : line.out ≡ out

pub told_read : (words ps : List (List ℕ)) (out : Option (List ℕ)) → AreTold words ps (values_of out) → IsReadLine (line_of words) ps out
told_read words ps out told =
    let ends = told_ends told [] None out refl in
    record { read = ap (λ line. is_read line.turn) ends.line ∙ ends.read; words = ap (λ line. line.positional) ends.line; value = ap (λ line. line.out) ends.line }

-- ---- from the reading to the relation

-- what words that were read from such a state on are told as
record Tells (ws before : List (List ℕ)) (given : Option (List ℕ)) (line : WordLine) : Type 0 where
  ps : List (List ℕ)
  vs : List (List ℕ)
  told : AreTold ws ps vs
  words : line.positional ≡ before ++ ps
  values : values_of given ++ vs ≡ values_of line.out

abbrev FromAny : List (List ℕ) → Type 0
FromAny ws = (before : List (List ℕ)) (given : Option (List ℕ)) → is_read (fold next_line (state Any before given) ws).turn ≡ true → Tells ws before given (fold next_line (state Any before given) ws)

abbrev FromValue : List (List ℕ) → Type 0
FromValue ws = (before : List (List ℕ)) (given : Option (List ℕ)) → is_read (fold next_line (state Value before given) ws).turn ≡ true → Tells (codes "--out" ∷ ws) before given (fold next_line (state Value before given) ws)

-- a refusal stays
never : (ws before : List (List ℕ)) (given : Option (List ℕ)) → is_read (fold next_line (state Refused before given) ws).turn ≡ true → ⊥
never [] before given h = cc
never (w ∷ ws) before given h = never ws before given h

-- the words behind `--`
record TellsRest (ws before : List (List ℕ)) (given : Option (List ℕ)) (line : WordLine) : Type 0 where
  plain : list_any begins_with_dash ws ≡ false
  words : line.positional ≡ before ++ ws
  value : line.out ≡ given

abbrev FromRest : List (List ℕ) → Type 0
FromRest ws = (before : List (List ℕ)) (given : Option (List ℕ)) → is_read (fold next_line (state Positional before given) ws).turn ≡ true → TellsRest ws before given (fold next_line (state Positional before given) ws)

rest_more : (w : List ℕ) (ws : List (List ℕ)) → FromRest ws → FromRest (w ∷ ws)
rest_more w ws rest before given = by (begins_with_dash w) refl
  where
    by : (b : Bool) → begins_with_dash w ≡ b → is_read (fold next_line (if b then state Refused before given else state Positional (before ++ w ∷ []) given) ws).turn ≡ true
        → TellsRest (w ∷ ws) before given (fold next_line (if b then state Refused before given else state Positional (before ++ w ∷ []) given) ws)
    by true e h = absurd (never ws before given h)
    by false e h =
        let more = rest (before ++ w ∷ []) given h in
        record { plain = ap (λ b. b || list_any begins_with_dash ws) e ∙ more.plain; words = more.words ∙ append_assoc before (w ∷ []) ws; value = more.value }

from_rest : (ws : List (List ℕ)) → FromRest ws
from_rest [] = λ before given h. record { plain = refl; words = sym (append-nil before); value = refl }
from_rest (w ∷ ws) = rest_more w ws (from_rest ws)

-- the value of an option, which stands as a word of its own or behind a sign
value_more : (turn : Turn) (v : List ℕ) (ws : List (List ℕ)) → FromAny ws → (words : List (List ℕ)) → ((ps vs : List (List ℕ)) → begins_with_dash v ≡ false → AreTold ws ps vs → AreTold words ps (v ∷ vs))
    → (before : List (List ℕ)) (given : Option (List ℕ)) → is_read (fold next_line (with_out (state turn before given) v) ws).turn ≡ true → Tells words before given (fold next_line (with_out (state turn before given) v) ws)
value_more turn v ws any words more before given = by (begins_with_dash v) refl given
  where
    by : (b : Bool) → begins_with_dash v ≡ b → (given : Option (List ℕ)) → is_read (fold next_line (if (b || is_some given) then state Refused before given else state Any before (Some v)) ws).turn ≡ true
        → Tells words before given (fold next_line (if (b || is_some given) then state Refused before given else state Any before (Some v)) ws)
    by true e given h = absurd (never ws before given h)
    by false e (Some x) h = absurd (never ws before (Some x) h)
    by false e None h = let rest = any before (Some v) h in record { ps = rest.ps; vs = v ∷ rest.vs; told = more rest.ps rest.vs e rest.told; words = rest.words; values = rest.values }

value_from : (v : List ℕ) (ws : List (List ℕ)) → FromAny ws → FromValue (v ∷ ws)
value_from v ws any before given = value_more Value v ws any (codes "--out" ∷ v ∷ ws) (λ ps vs plain rest. value_apart plain rest) before given

any_from : (w : List ℕ) (ws : List (List ℕ)) → FromAny ws → FromValue ws → FromAny (w ∷ ws)
any_from w ws any value before given = by (bytes_eq w (codes "--")) (bytes_eq w (codes "--out")) (starts_with nat_eq w (codes "--out=")) (begins_with_dash w) refl refl refl refl
  where
    by : (a b c d : Bool) → bytes_eq w (codes "--") ≡ a → bytes_eq w (codes "--out") ≡ b → starts_with nat_eq w (codes "--out=") ≡ c → begins_with_dash w ≡ d
        → is_read (fold next_line (if a then state Positional before given else (if b then state Value before given else (if c then with_out (state Any before given) (drop 6 w) else (if d then state Refused before given else state Any (before ++ w ∷ []) given)))) ws).turn ≡ true
        → Tells (w ∷ ws) before given (fold next_line (if a then state Positional before given else (if b then state Value before given else (if c then with_out (state Any before given) (drop 6 w) else (if d then state Refused before given else state Any (before ++ w ∷ []) given)))) ws)
    by true b c d p q r s h =
        let rest = from_rest ws before given h in
        record {
          ps = ws;
          vs = [];
          told = subst (λ x. AreTold (x ∷ ws) ws []) (sym ((bytes_eq-Decides w (codes "--")).0 p)) (all_positional rest.plain);
          words = rest.words;
          values = append-nil (values_of given) ∙ ap values_of (sym rest.value);
        }
    by false true c d p q r s h = subst (λ x. Tells (x ∷ ws) before given (fold next_line (state Value before given) ws)) (sym ((bytes_eq-Decides w (codes "--out")).0 q)) (value before given h)
    by false false true d p q r s h =
        let is = (starts_is Decides-eqb w (codes "--out=") (starts_with nat_eq w (codes "--out=")) refl).0 r in
        value_more Any (drop 6 w) ws any (w ∷ ws) (λ ps vs plain rest. subst (λ x. AreTold (x ∷ ws) ps (drop 6 w ∷ vs)) (sym is) (value_joined plain rest)) before given h
    by false false false true p q r s h = absurd (never ws before given h)
    by false false false false p q r s h =
        let rest = any (before ++ w ∷ []) given h in
        record { ps = w ∷ rest.ps; vs = rest.vs; told = positional s rest.told; words = rest.words ∙ append_assoc before (w ∷ []) rest.ps; values = rest.values }

from_words : (ws : List (List ℕ)) → FromAny ws × FromValue ws
from_words [] = (
  λ before given h. record { ps = []; vs = []; told = no_words; words = sym (append-nil before); values = append-nil (values_of given) },
  λ before given h. let bad : ⊥ = cc in absurd bad,
)
from_words (w ∷ ws) = let rest = from_words ws in (any_from w ws rest.0 rest.1, value_from w ws rest.0)

-- Words that are read are told.
pub read_told : (words : List (List ℕ)) → is_read (line_of words).turn ≡ true → AreTold words (line_of words).positional (values_of (line_of words).out)
read_told words h =
    let tells = (from_words words).0 [] None h in
    subst (λ vs. AreTold words (line_of words).positional vs) tells.values (subst (λ ps. AreTold words ps tells.vs) (sym tells.words) tells.told)

-- ---- the task

pub build_told : (words : List (List ℕ)) (build : Build) → IsBuildLine (line_of words) build → IsBuild words build
build_told words build h = record { positional = (line_of words).positional; out = (line_of words).out; told = read_told words h.read; of = h.of }

pub check_told : (words : List (List ℕ)) (check : Check) → IsCheckLine (line_of words) check → IsCheck words check
check_told words check h = record {
  positional = (line_of words).positional;
  told = subst (λ out. AreTold words (line_of words).positional (values_of out)) h.no_option (read_told words h.read);
  of = h.of;
}

pub build_read : (words : List (List ℕ)) (build : Build) → IsBuild words build → IsBuildLine (line_of words) build
build_read words build h =
    let line = told_read words h.positional h.out h.told in
    record {
      read = line.read;
      of = subst (λ ps. IsBuildOf ps (unwrap_or (line_of words).out default_out) build) (sym line.words) (subst (λ out. IsBuildOf h.positional (unwrap_or out default_out) build) (sym line.value) h.of);
    }

pub check_read : (words : List (List ℕ)) (check : Check) → IsCheck words check → IsCheckLine (line_of words) check
check_read words check h =
    let line = told_read words h.positional None h.told in
    record { read = line.read; no_option = line.value; of = subst (λ ps. IsCheckOf ps check) (sym line.words) h.of }

task_told : (words : List (List ℕ)) (task : Task) → IsTaskLine (line_of words) task → IsJob words task
task_told words (tasks.Build build) h = build_told words build h
task_told words (tasks.Check check) h = check_told words check h

task_read : (words : List (List ℕ)) (task : Task) → IsJob words task → IsTaskLine (line_of words) task
task_read words (tasks.Build build) h = build_read words build h
task_read words (tasks.Check check) h = check_read words check h

-- What is read of words is their task.
pub job_some : (words seen : List (List ℕ)) (result : Result (Option Task) NoMemory) → seen ≡ words → IfOk result (λ found. IfSome found (IsTaskLine (line_of seen))) → IfOk result (λ found. IfSome found (IsJob words))
job_some words seen (Ok None) same h = tt
job_some words seen (Ok (Some task)) same h = subst (λ ws. IsJob ws task) same (task_told seen task h)
job_some words seen (Err e) same h = tt

pub job_none : (words seen : List (List ℕ)) (result : Result (Option Task) NoMemory) → seen ≡ words → IfOk result (λ found. IfNone found ((task : Task) → IsTaskLine (line_of seen) task → ⊥)) → IfOk result (λ found. IfNone found (IsNoJob words))
job_none words seen (Ok None) same h = λ task is. h task (task_read seen task (subst (λ ws. IsJob ws task) (sym same) is))
job_none words seen (Ok (Some task)) same h = tt
job_none words seen (Err e) same h = tt
