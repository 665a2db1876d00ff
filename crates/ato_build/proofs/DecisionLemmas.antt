-- What a certificate says of its problem, it says of the picks from the catalogue.
use Rattle.std.proofs.Common.{◌≡◌, ℕ, zero, suc, ◌<◌, ◌≤◌, List, [], ◌∷◌, ◌++◌, length, get_or, ap, sym, ◌∙◌, refl, subst, arith, inl, inr}
use Rattle.std.specs.Prelude.{Option, Some, None, Result, Ok, Err, IfOk, All, Contains, option_map, unwrap_or, string_bytes, ◌^◌}
use Rattle.std.specs.List.{AllZip, slice_get}
use Rattle.ato_rational.specs.Rational.{ℚ}
use Rattle.ato_rational.specs.Ranges.{IsWithin}
use Rattle.ato_rational.proofs.Order.{≤ℚ_trans, ≈ℚ-≤ℚ, ≈ℚ_sym}
use Rattle.ato_frac.specs.declared.fraction.Frac.{Frac}
use Rattle.ato_frac.specs.Fractions.{value_of}
use Rattle.std.proofs.lemmas.List.Elements.{All-cons, All-nil, Contains-append_right}
use Rattle.ato_base.proofs.ClassLaws.{nowhere, first, later, cases}
use Rattle.ato_first_catalog.specs.Catalogue.{IsWhole, ShowsRows, ShowsContents}
use Rattle.ato_first_catalog.specs.Contents.{Contents, numbered}
use Rattle.ato_first_catalog.specs.Rows.{PlainRow}
use Rattle.ato_first_catalog.specs.declared.rows.CatalogRow.{CatalogRow}
use Rattle.ato_first_catalog.specs.declared.reading.Catalog.{Catalog}
use Rattle.ato_cert.specs.Good as problems
use Rattle.ato_search.specs.Decides as searches
use Rattle.ato_cert.specs.Nodes.{nodes}
use Rattle.ato_cert.specs.Valid.{IsValid}
use Rattle.ato_cert.specs.declared.cert.BoxTree.{BoxTree}
use Rattle.ato_cert.specs.declared.cert.Cert.{Cert}
use Rattle.ato_cert.specs.declared.cert.PickTree.{PickTree}
use Rattle.ato_cert.specs.declared.cert.Proof.TheVariants as proofs
use Rattle.ato_cert.specs.declared.cert.Verdict.{Verdict}
use Rattle.ato_cert.specs.declared.cert.Verdict.TheVariants as verdicts
use Rattle.ato_base.specs.declared.memory.NoMemory.{NoMemory}
use Rattle.ato_first.specs.declared.first_form.Block.{Block}
use Rattle.ato_build.specs.Boards.{board_of, IsProblemOf}
use Rattle.ato_build.specs.Decisions.{PutsBuilt, PutsRefuted, IsDecision}
use Rattle.ato_build.specs.declared.decisions.Decision.{Decision}
use Rattle.ato_build.specs.declared.status.Status.TheVariants as answers
use Rattle.ato_build.specs.declared.project.Options.{Options}
use Rattle.ato_cert.specs.declared.problem.Problem.{Problem}
use Rattle.ato_cert.specs.declared.problem.Row.{Row}
use Rattle.ato_cert.specs.declared.problem.Slot.{Slot}
use Rattle.ato_first.specs.FirstParts.{Part, Candidate, candidates, IsBetween, IsGoodCandidate, IsGoodNumber, IsFirstGoodNumber, IsGoodPick, IsFirstGoodPick, NoGoodPick, part_of, picked_part, comp_value}
use Rattle.ato_build.specs.Problems.{IsRowOf, IsSlotOf, IsSlotFor, IsProblem}

-- ---- values between whole numbers and between their fractions

within_whole : (low high : Frac) (least greatest : ℕ) → IsWhole low least → IsWhole high greatest → (x : ℚ) → IsWithin (value_of low) (value_of high) x → IsBetween least greatest x
within_whole low high least greatest l h x w = record { above = ≤ℚ_trans (≈ℚ-≤ℚ (≈ℚ_sym l)) w.above; below = ≤ℚ_trans w.below (≈ℚ-≤ℚ h) }

within_frac : (low high : Frac) (least greatest : ℕ) → IsWhole low least → IsWhole high greatest → (x : ℚ) → IsBetween least greatest x → IsWithin (value_of low) (value_of high) x
within_frac low high least greatest l h x w = record { above = ≤ℚ_trans (≈ℚ-≤ℚ l) w.above; below = ≤ℚ_trans w.below (≈ℚ-≤ℚ (≈ℚ_sym h)) }

module _ (contents : Contents) (part : Part) (slot : Slot) (is : IsSlotOf contents part slot) where
  good_candidate : (row : Row) (candidate : Candidate) → IsRowOf row candidate → problems.IsGoodRow slot row → IsGoodCandidate part candidate
  good_candidate row candidate same good =
      λ x w. within_whole slot.low slot.high part.low part.high is.low is.high x (good x (within_frac row.low row.high candidate.low candidate.high same.low same.high x w))

  good_row : (row : Row) (candidate : Candidate) → IsRowOf row candidate → IsGoodCandidate part candidate → problems.IsGoodRow slot row
  good_row row candidate same good =
      λ x w. within_frac slot.low slot.high part.low part.high is.low is.high x (good x (within_whole row.low row.high candidate.low candidate.high same.low same.high x w))

  -- the candidate of a row, and the row of a candidate
  candidate_of : (rows : List Row) (some : List Candidate) → AllZip IsRowOf rows some → (row : Row) → Contains rows row → (candidate : Candidate) × Contains some candidate × IsRowOf row candidate
  candidate_of [] [] zip row h = absurd (nowhere row h)
  candidate_of [] (c ∷ some) zip row h = absurd zip
  candidate_of (r ∷ rows) [] zip row h = absurd zip
  candidate_of (r ∷ rows) (c ∷ some) zip row h = elim (cases r row rows h) [
    | inl same ↦ (c, first c some, subst (λ x. IsRowOf x c) (sym same) zip.0)
    | inr more ↦ let found = candidate_of rows some zip.1 row more in (found.0, later c found.0 some found.1, found.2)
  ]

  row_of : (rows : List Row) (some : List Candidate) → AllZip IsRowOf rows some → (candidate : Candidate) → Contains some candidate → (row : Row) × Contains rows row × IsRowOf row candidate
  row_of [] [] zip candidate h = absurd (nowhere candidate h)
  row_of [] (c ∷ some) zip candidate h = absurd zip
  row_of (r ∷ rows) [] zip candidate h = absurd zip
  row_of (r ∷ rows) (c ∷ some) zip candidate h = elim (cases c candidate some h) [
    | inl same ↦ (r, first r rows, subst (λ x. IsRowOf r x) (sym same) zip.0)
    | inr more ↦ let found = row_of rows some zip.1 candidate more in (found.0, later r found.0 rows found.1, found.2)
  ]

  -- the candidates before a row's own are those of the rows before it
  split_at : (before : List Row) (row : Row) (after : List Row) (some : List Candidate) → AllZip IsRowOf (before ++ row ∷ after) some → All (λ other. ¬ problems.IsGoodRow slot other) before → problems.IsGoodRow slot row
      → (front : List Candidate) × (candidate : Candidate) × (back : List Candidate) × (some ≡ front ++ candidate ∷ back) × (candidate.number ≡ row.number) × IsGoodCandidate part candidate × All (λ other. IsGoodCandidate part other → ⊥) front
  split_at [] row after [] zip none good = absurd zip
  split_at [] row after (c ∷ some) zip none good = ([], c, some, refl, sym zip.0.number, good_candidate row c zip.0 good, All-nil {X = Candidate} (λ other. IsGoodCandidate part other → ⊥))
  split_at (r ∷ before) row after [] zip none good = absurd zip
  split_at (r ∷ before) row after (c ∷ some) zip none good =
      let rest = split_at before row after some zip.1 (λ k d h. none (suc k) d (omega arith)) good in (
        c ∷ rest.0,
        rest.1,
        rest.2,
        ap (λ l. c ∷ l) rest.3,
        rest.4,
        rest.5,
        All-cons (λ other. IsGoodCandidate part other → ⊥) c rest.0 (λ fine. none 0 r (omega arith) (good_row r c zip.0 fine)) rest.6,
      )

  first_here : (number : ℕ) → problems.IsFirstGoodNumber slot number → IsFirstGoodNumber contents part number
  first_here number h =
      let found = split_at h.before h.row h.after (candidates contents part) (subst (λ rows. AllZip IsRowOf rows (candidates contents part)) h.rows_are is.rows) h.none_before h.good in
      record { before = found.0; candidate = found.1; after = found.2; candidates_are = found.3; numbered = found.4 ∙ h.numbered; good = found.5; none_before = found.6 }

  good_here : (number : ℕ) → problems.IsGoodNumber slot number → IsGoodNumber contents part number
  good_here number h =
      let found = candidate_of slot.rows (candidates contents part) is.rows h.row h.candidate in
      record { candidate = found.0; is = found.1; numbered = sym found.2.number ∙ h.numbered; good = good_candidate h.row found.0 found.2 h.good }

  good_there : (number : ℕ) → IsGoodNumber contents part number → problems.IsGoodNumber slot number
  good_there number h =
      let found = row_of slot.rows (candidates contents part) is.rows h.candidate h.is in
      record { row = found.0; candidate = found.1; numbered = found.2.number ∙ h.numbered; good = good_row found.0 h.candidate found.2 h.good }

-- ---- picks

-- A pick that is good for the problem is good for the catalogue.
pub good_pick : (part : Option Part) (contents : Contents) (problem : Problem) (pick : List ℕ) → IsProblem part contents problem → problems.IsGood problem pick → IsGoodPick part contents pick
good_pick part contents problem pick is good = by part problem.slot pick is good
  where
    by : (p : Option Part) (s : Option Slot) (numbers : List ℕ) → IsSlotFor p contents s → problems.IsGoodOf s numbers → IsGoodPick p contents numbers
    by None None [] h k = tt
    by None None (number ∷ numbers) h k = k
    by None (Some slot) numbers h k = absurd h
    by (Some p) None numbers h k = absurd h
    by (Some p) (Some slot) [] h k = k
    by (Some p) (Some slot) (number ∷ []) h k = good_here contents p slot h number k
    by (Some p) (Some slot) (number ∷ other ∷ numbers) h k = k

-- A pick that is the first good one for the problem is the first for the catalogue.
pub first_pick : (part : Option Part) (contents : Contents) (problem : Problem) (pick : List ℕ) → IsProblem part contents problem → problems.IsFirstGood problem pick → IsFirstGoodPick part contents pick
first_pick part contents problem pick is good = by part problem.slot pick is good
  where
    by : (p : Option Part) (s : Option Slot) (numbers : List ℕ) → IsSlotFor p contents s → problems.IsFirstGoodOf s numbers → IsFirstGoodPick p contents numbers
    by None None [] h k = tt
    by None None (number ∷ numbers) h k = k
    by None (Some slot) numbers h k = absurd h
    by (Some p) None numbers h k = absurd h
    by (Some p) (Some slot) [] h k = k
    by (Some p) (Some slot) (number ∷ []) h k = first_here contents p slot h number k
    by (Some p) (Some slot) (number ∷ other ∷ numbers) h k = k

-- A pick that is good for the catalogue is good for the problem.
pub good_for_problem : (part : Option Part) (contents : Contents) (problem : Problem) (pick : List ℕ) → IsProblem part contents problem → IsGoodPick part contents pick → problems.IsGood problem pick
good_for_problem part contents problem pick is good = by part problem.slot pick is good
  where
    by : (p : Option Part) (s : Option Slot) (numbers : List ℕ) → IsSlotFor p contents s → IsGoodPick p contents numbers → problems.IsGoodOf s numbers
    by None None [] h k = tt
    by None None (number ∷ numbers) h k = k
    by None (Some slot) numbers h k = absurd h
    by (Some p) None numbers h k = absurd h
    by (Some p) (Some slot) [] h k = k
    by (Some p) (Some slot) (number ∷ []) h k = good_there contents p slot h number k
    by (Some p) (Some slot) (number ∷ other ∷ numbers) h k = k

-- Where the problem has no good pick, the catalogue has none.
pub no_good_pick : (part : Option Part) (contents : Contents) (problem : Problem) → IsProblem part contents problem → problems.NoGood problem → NoGoodPick part contents
no_good_pick part contents problem is none pick good = none pick (good_for_problem part contents problem pick is good)

-- The first good pick is a good pick.
pub first_is_good : (problem : Problem) (pick : List ℕ) → problems.IsFirstGood problem pick → problems.IsGood problem pick
first_is_good problem pick h = by problem.slot pick h
  where
    by : (s : Option Slot) (numbers : List ℕ) → problems.IsFirstGoodOf s numbers → problems.IsGoodOf s numbers
    by None [] k = tt
    by None (number ∷ numbers) k = k
    by (Some slot) [] k = k
    by (Some slot) (number ∷ []) k = record { row = k.row; candidate = subst (λ rows. Contains rows k.row) (sym k.rows_are) (Contains-append_right k.before (k.row ∷ k.after) k.row (first k.row k.after)); numbered = k.numbered; good = k.good }
    by (Some slot) (number ∷ other ∷ numbers) k = k

-- ---- the row of a number

rows_there : (rows : List CatalogRow) (plains : List PlainRow) (i : ℕ) → ShowsRows rows plains → option_map (λ row. row.part) (slice_get rows i) ≡ option_map (λ row. row.part) (slice_get plains i)
rows_there [] [] i h = refl
rows_there [] (plain ∷ plains) i h = absurd h
rows_there (row ∷ rows) [] i h = absurd h
rows_there (row ∷ rows) (plain ∷ plains) zero h = ap Some h.0.part
rows_there (row ∷ rows) (plain ∷ plains) (suc i) h = rows_there rows plains i h.1

-- The part in the row of a number is the catalogue's.
pub numbered_part : (catalog : Catalog) (contents : Contents) (number : ℕ) → ShowsContents catalog contents
    → option_map (λ row. row.part) (numbered catalog.rows number) ≡ option_map (λ row. row.part) (numbered contents.rows number)
numbered_part catalog contents zero h = refl
numbered_part catalog contents (suc before) h = rows_there catalog.rows contents.rows before h.rows

first_number : (contents : Contents) (pick : List ℕ) (number : ℕ) → 1 ≤ length pick → number ≡ get_or pick 0 0 → picked_part contents pick ≡ option_map (λ row. row.part) (numbered contents.rows number)
first_number contents [] number some is = absurd (omega arith)
first_number contents (n ∷ numbers) number some is = ap (λ k. option_map (λ row. row.part) (numbered contents.rows k)) (sym is)

-- What stands for the component is the part in the row of the picked number, or the block's name.
pub picked_value : (block : Block) (catalog : Catalog) (pick : List ℕ) (number : ℕ) (row : Option CatalogRow) → 1 ≤ length pick → number ≡ get_or pick 0 0 → row ≡ numbered catalog.rows number
    → (contents : Contents) → ShowsContents catalog contents → unwrap_or (option_map (λ r. r.part) row) block.name ≡ comp_value block contents pick
picked_value block catalog pick number row some is found contents shows =
    ap (λ p. unwrap_or p block.name) (ap (option_map (λ r. r.part)) found ∙ numbered_part catalog contents number shows ∙ sym (first_number contents pick number some is))

-- ---- decisions

-- a pick that the certificate has built
pub built_decided : (options : Options) (block : Block) (catalog : Catalog) (problem : Problem) (cert : Cert) (pick numbers : List ℕ) (boxes : List BoxTree) (result : Result Decision NoMemory)
    → ((contents : Contents) → ShowsContents catalog contents → IsProblemOf (board_of block contents) problem) → IsValid problem cert → cert.steps ≡ options.steps → searches.Decides problem cert.proof
    → cert.proof ≡ proofs.Built pick boxes → numbers ≡ pick → IfOk result (λ d. d.status ≡ answers.Built)
    → IfOk result (λ d. (contents : Contents) → ShowsContents catalog contents → PutsBuilt options (board_of block contents) numbers cert d.outputs.items (string_bytes d.summary))
    → IfOk result (λ d. (contents : Contents) → ShowsContents catalog contents → IsDecision options (board_of block contents) d.status d.outputs.items (string_bytes d.summary))
built_decided options block catalog problem cert pick numbers boxes (Err e) is valid steps decides built same status puts = tt
built_decided options block catalog problem cert pick numbers boxes (Ok d) is valid steps decides built same status puts = λ contents shows.
    let first : problems.IsFirstGood problem pick = subst (searches.Decides problem) built decides in
    subst (λ s. IsDecision options (board_of block contents) s d.outputs.items (string_bytes d.summary)) (sym status) (
      pick,
      record {
        good = good_pick (part_of block.lines) contents problem pick (is contents shows) (first_is_good problem pick first);
        first = first_pick (part_of block.lines) contents problem pick (is contents shows) first;
        cert = cert;
        certified = record { valid = record { problem = problem; is_problem = is contents shows; valid = valid }; steps_are = steps; boxes = boxes; proof = built };
        puts = subst (λ p. PutsBuilt options (board_of block contents) p cert d.outputs.items (string_bytes d.summary)) same (puts contents shows);
      },
    )

-- picks that the certificate has refuted
pub refuted_decided : (options : Options) (block : Block) (catalog : Catalog) (problem : Problem) (cert : Cert) (verdict : Verdict) (tree : PickTree) (result : Result Decision NoMemory)
    → ((contents : Contents) → ShowsContents catalog contents → IsProblemOf (board_of block contents) problem) → IsValid problem cert → cert.steps ≡ options.steps → searches.Decides problem cert.proof
    → cert.proof ≡ proofs.Tree verdict tree → IfOk result (λ d. d.status ≡ answers.Refuted)
    → IfOk result (λ d. (contents : Contents) → PutsRefuted options (board_of block contents) cert d.outputs.items (string_bytes d.summary))
    → IfOk result (λ d. (contents : Contents) → ShowsContents catalog contents → IsDecision options (board_of block contents) d.status d.outputs.items (string_bytes d.summary))
refuted_decided options block catalog problem cert verdict tree (Err e) is valid steps decides refuted status puts = tt
refuted_decided options block catalog problem cert verdicts.Refuted tree (Ok d) is valid steps decides refuted status puts = λ contents shows.
    let none : problems.NoGood problem = subst (searches.Decides problem) refuted decides in
    subst (λ s. IsDecision options (board_of block contents) s d.outputs.items (string_bytes d.summary)) (sym status) (record {
      none_good = no_good_pick (part_of block.lines) contents problem (is contents shows) none;
      cert = cert;
      certified = record { valid = record { problem = problem; is_problem = is contents shows; valid = valid }; steps_are = steps; tree = tree; proof = refuted };
      puts = puts contents;
    })

-- a certificate with few nodes
pub few_nodes : (problem : Problem) (cert : Cert) → IsValid problem cert → nodes cert.proof < 2 ^ 32
few_nodes problem cert valid = omega (arith, valid.within_steps, valid.steps_most)
