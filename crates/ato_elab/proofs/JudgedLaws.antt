-- The mark of a path is its fault.
use Rattle.std.proofs.Common.{◌≡◌, ℕ, Bool, true, false, cond, not, List, [], ◌∷◌, ◌++◌, Option, Some, None, refl, sym, ap, ◌∙◌, subst}
use Rattle.std.specs.Prelude.{slice_get, if◌then◌else◌}
use Rattle.std.specs.List.{flat_map}
use Rattle.std.specs.Option.{option_map, option_or}
use Rattle.ato_base.specs.declared.places.Span.{Span}
use Rattle.ato_base.specs.declared.faults.Fault.{Fault}
use Rattle.ato_ast.specs.declared.names.Named.{Named}
use Rattle.ato_ast.specs.declared.paths.Path.{Path}
use Rattle.ato_files.specs.declared.program.SourceFile.{SourceFile}
use Rattle.ato_files.specs.Lists.{first_of_all}
use Rattle.ato_files.specs.Members.{Kind, signal, instance, param}
use Rattle.ato_instance_tree.specs.Paths as paths
use Rattle.ato_instance_tree.specs.Paths.{lost, free, member_of, pin_of, find_path, must_be, is_param, is_instance, end_faults, param_faults, instance_path_faults, text_found, text_faults, no_member, wrong_kind}
use Rattle.ato_elab.specs.declared.faults.Mark.{Mark}
use Rattle.ato_elab.specs.declared.faults.Wanted.{Wanted}
use Rattle.ato_elab.specs.declared.faults.Wanted.TheVariants as wanted
use Rattle.ato_elab.specs.declared.finding_names.Sort.{Sort}
use Rattle.ato_elab.specs.declared.finding_paths.Found.{Found}
use Rattle.ato_elab.specs.declared.finding_paths.Found.TheVariants as found
use Rattle.ato_elab.specs.declared.late_ground.Ground.{Ground}
use Rattle.ato_elab.specs.Ground.{found_in}
use Rattle.ato_elab.specs.Late.{params_in}
use Rattle.ato_elab.specs.Faults.{wrong, fits, takes_pins, judged, text_judged}
use Rattle.ato_elab.specs.Standing.{IsAt}
use Rattle.ato_elab.specs.Landing.{IsFound, IsGround, IsFirst, marked, sort_of}
use Rattle.ato_elab.proofs.FoundLaws.{paths_are_found}

-- ---- first faults

append_first : {X : Type 0} (xs ys : List X) → first_of_all (xs ++ ys) ≡ option_or (first_of_all xs) (first_of_all ys)
append_first [] ys = refl
append_first (x ∷ xs) ys = refl

map_or : {A B : Type 0} (f : A → B) (o p : Option A) → option_map f (option_or o p) ≡ option_or (option_map f o) (option_map f p)
map_or f None p = refl
map_or f (Some x) p = refl

pub none_first : {path : List ℕ} → IsFirst path None []
none_first = record { is = refl }

pub both_first : {path : List ℕ} {m n : Option Mark} {xs ys : List Fault} → IsFirst path m xs → IsFirst path n ys → IsFirst path (option_or m n) (xs ++ ys)
both_first {path = path} {m = m} {n = n} {xs = xs} {ys = ys} a b = record {
  is =
      map_or (marked path) m n ∙ ap (λ (o : Option Fault). option_or o (option_map (marked path) n)) a.is ∙ ap (λ (o : Option Fault). option_or (first_of_all xs) o) b.is ∙ sym (append_first xs ys);
}

-- nothing more behind the first one
pub alone_first : {path : List ℕ} {m : Option Mark} {xs : List Fault} → IsFirst path m xs → IsFirst path m (xs ++ [])
alone_first {path = path} {m = m} {xs = xs} a = record { is = a.is ∙ or_none (first_of_all xs) ∙ sym (append_first xs []) }
  where
    or_none : (o : Option Fault) → o ≡ option_or o None
    or_none None = refl
    or_none (Some x) = refl

pub if_first : {path : List ℕ} {m : Option Mark} {xs : List Fault} (b : Bool) → IsFirst path m xs → IsFirst path (if b then None else m) (if b then [] else xs)
if_first true a = none_first
if_first false a = a

pub when_first : {path : List ℕ} {m : Option Mark} {xs : List Fault} (b c : Bool) → b ≡ c → IsFirst path m xs → IsFirst path (if b then m else None) (if c then xs else [])
when_first true true e a = a
when_first false false e a = none_first
when_first true false e a = absurd (cc)
when_first false true e a = absurd (cc)

-- ---- paths

abbrev test_of : Wanted → Kind → Bool
test_of wanted.End = λ k. not (is_param k)
test_of wanted.Param = is_param
test_of wanted.Instance = is_instance

test_same : (w : Wanted) (k : Kind) → fits w (sort_of k) ≡ test_of w k
test_same wanted.End signal = refl
test_same wanted.End (instance type) = refl
test_same wanted.End param = refl
test_same wanted.Param signal = refl
test_same wanted.Param (instance type) = refl
test_same wanted.Param param = refl
test_same wanted.Instance signal = refl
test_same wanted.Instance (instance type) = refl
test_same wanted.Instance param = refl

pass_first : {path : List ℕ} (b c : Bool) (m n : Named) → b ≡ c → m ≡ n → IsFirst path (if b then None else Some (wrong m.at)) (if c then [] else wrong_kind path n.at ∷ [])
pass_first true true m n e same = none_first
pass_first {path = path} false false m n e same = record { is = ap (λ (x : Named). Some (wrong_kind path x.at)) same }
pass_first true false m n e same = absurd (cc)
pass_first false true m n e same = absurd (cc)

must_law : (w : Wanted) (files : List SourceFile) (entry : ℕ) (path : List ℕ) (f : paths.Found) (r : Found) → IsFound files entry f r
    → IsFirst path (judged w r) (must_be (test_of w) (takes_pins w) path f)
must_law w files entry path (lost a) (found.Lost b) h = record { is = ap (λ (x : Span). Some (no_member path x)) h }
must_law w files entry path (free holder n) (found.Free number m) h = record { is = ap (λ (x : Named). Some (no_member path x.at)) h.0 }
must_law w files entry path (member_of holder n k) (found.Member number m node s) h = pass_first (fits w s) (test_of w k) m n (ap (fits w) h.2 ∙ test_same w k) h.0
must_law w files entry path (pin_of holder n) (found.Pin m) h = pass_first (takes_pins w) (takes_pins w) m n refl h
must_law w files entry path (lost a) (found.Free number m) h = absurd h
must_law w files entry path (lost a) (found.Member number m node s) h = absurd h
must_law w files entry path (lost a) (found.Pin m) h = absurd h
must_law w files entry path (free holder n) (found.Lost b) h = absurd h
must_law w files entry path (free holder n) (found.Member number m node s) h = absurd h
must_law w files entry path (free holder n) (found.Pin m) h = absurd h
must_law w files entry path (member_of holder n k) (found.Lost b) h = absurd h
must_law w files entry path (member_of holder n k) (found.Free number m) h = absurd h
must_law w files entry path (member_of holder n k) (found.Pin m) h = absurd h
must_law w files entry path (pin_of holder n) (found.Lost b) h = absurd h
must_law w files entry path (pin_of holder n) (found.Free number m) h = absurd h
must_law w files entry path (pin_of holder n) (found.Member number m node s) h = absurd h

text_law : (files : List SourceFile) (entry : ℕ) (path : List ℕ) (f : paths.Found) (r : Found) → IsFound files entry f r → IsFirst path (text_judged r) (text_found path f)
text_law files entry path (lost a) (found.Lost b) h = record { is = ap (λ (x : Span). Some (no_member path x)) h }
text_law files entry path (free holder n) (found.Free number m) h = none_first
text_law files entry path (member_of holder n k) (found.Member number m node s) h = record { is = ap (λ (x : Named). Some (wrong_kind path x.at)) h.0 }
text_law files entry path (pin_of holder n) (found.Pin m) h = record { is = ap (λ (x : Named). Some (wrong_kind path x.at)) h }
text_law files entry path (lost a) (found.Free number m) h = absurd h
text_law files entry path (lost a) (found.Member number m node s) h = absurd h
text_law files entry path (lost a) (found.Pin m) h = absurd h
text_law files entry path (free holder n) (found.Lost b) h = absurd h
text_law files entry path (free holder n) (found.Member number m node s) h = absurd h
text_law files entry path (free holder n) (found.Pin m) h = absurd h
text_law files entry path (member_of holder n k) (found.Lost b) h = absurd h
text_law files entry path (member_of holder n k) (found.Free number m) h = absurd h
text_law files entry path (member_of holder n k) (found.Pin m) h = absurd h
text_law files entry path (pin_of holder n) (found.Lost b) h = absurd h
text_law files entry path (pin_of holder n) (found.Free number m) h = absurd h
text_law files entry path (pin_of holder n) (found.Member number m node s) h = absurd h

-- the ground, and the instance of a node
module _ {names : List (List ℕ)} {entry : ℕ} {g : Ground} (is : IsGround names entry g) {number : ℕ} {path : List ℕ} (at : IsAt g.files.now entry number path) where
  pub end_first : (p : Path) → IsFirst path (judged wanted.End (found_in g number p)) (end_faults g.files.now entry path p)
  end_first p = must_law wanted.End g.files.now entry path (find_path g.files.now entry path p) (found_in g number p) (paths_are_found names entry number g path p is at)

  pub param_first : (p : Path) → IsFirst path (judged wanted.Param (found_in g number p)) (param_faults g.files.now entry path p)
  param_first p = must_law wanted.Param g.files.now entry path (find_path g.files.now entry path p) (found_in g number p) (paths_are_found names entry number g path p is at)

  pub instance_first : (p : Path) → IsFirst path (judged wanted.Instance (found_in g number p)) (instance_path_faults g.files.now entry path p)
  instance_first p = must_law wanted.Instance g.files.now entry path (find_path g.files.now entry path p) (found_in g number p) (paths_are_found names entry number g path p is at)

  pub text_first : (p : Path) → IsFirst path (text_judged (found_in g number p)) (text_faults g.files.now entry path p)
  text_first p = text_law g.files.now entry path (find_path g.files.now entry path p) (found_in g number p) (paths_are_found names entry number g path p is at)

pub params_first : {names : List (List ℕ)} {entry : ℕ} {g : Ground} → IsGround names entry g → {number : ℕ} {path : List ℕ} → IsAt g.files.now entry number path
    → (ps : List Path) → IsFirst path (params_in g number ps) (flat_map (param_faults g.files.now entry path) ps)
unfolding params_in
params_first is at [] = none_first
params_first is at (p ∷ ps) = both_first (param_first is at p) (params_first is at ps)
