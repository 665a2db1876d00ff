-- The text of a certificate.
use Rattle.std.specs.Prelude.{ℕ, ◌+◌, List, [], ◌∷◌, ◌++◌, codes}
use Rattle.std.specs.List.{flat_map}
use Rattle.std.specs.Fmt.{decimal, signed_decimal}
use Rattle.ato_frac.specs.declared.fraction.Frac.{Frac}
use Rattle.ato_frac.specs.Fractions.{value_of}
use Rattle.ato_cert.specs.declared.cert.PickTree.{PickTree, fold-PickTree}
use Rattle.ato_cert.specs.declared.cert.PickTree.TheOpen.{PickTree-F}
use Rattle.ato_cert.specs.declared.cert.BoxTree.{BoxTree}
use Rattle.ato_cert.specs.declared.cert.BoxTree.TheVariants.{Holds}
use Rattle.ato_cert.specs.declared.cert.Verdict.{Verdict}
use Rattle.ato_cert.specs.declared.cert.Verdict.TheVariants.{Refuted}
use Rattle.ato_cert.specs.declared.cert.Proof.{Proof}
use Rattle.ato_cert.specs.declared.cert.Proof.TheVariants.{Built, Tree}
use Rattle.ato_cert.specs.declared.cert.Cert.{Cert}

-- a number after a blank
unfoldable pub number_word : ℕ → List ℕ
number_word n = codes " " ++ decimal n

-- a fraction after a blank, as in ` -1/2`
unfoldable pub fraction_word : Frac → List ℕ
fraction_word f = codes " " ++ (signed_decimal (value_of f).num ++ (codes "/" ++ decimal (value_of f).den))

-- the line `empty S`
unfoldable pub empty_line : ℕ → List ℕ
empty_line slot = codes "empty " ++ (decimal slot ++ codes "\n")

-- the line `row S R`
unfoldable pub row_line : ℕ → ℕ → List ℕ
row_line slot row = codes "row " ++ (decimal slot ++ (codes " " ++ (decimal row ++ codes "\n")))

-- the line `fails K` with its fractions
unfoldable pub fails_line : ℕ → List Frac → List ℕ
fails_line check point = codes "fails" ++ (number_word check ++ (flat_map fraction_word point ++ codes "\n"))

-- a tree's first line, and after it the trees below in their order
abbrev pub text_step : PickTree-F (List ℕ) → List ℕ
text_step (PickTree-F.Empty slot) = empty_line slot
text_step (PickTree-F.ByRow slot row low high) = row_line slot row ++ (low ++ high)
text_step (PickTree-F.Fails check point) = fails_line check point

-- the lines of a tree, each before those of the trees below it
abbrev pub tree_text : PickTree → List ℕ
tree_text = fold-PickTree (List ℕ) text_step

abbrev pub box_word : BoxTree → List ℕ
box_word Holds = codes "holds"

-- the line `check K` and the tree of the check
unfoldable pub check_text : ℕ → BoxTree → List ℕ
check_text check box = codes "check " ++ (decimal check ++ (codes "\n" ++ (box_word box ++ codes "\n")))

-- checks with numbers from this one on
abbrev pub checks_text : ℕ → List BoxTree → List ℕ
checks_text check [] = []
checks_text check (box ∷ boxes) = check_text check box ++ checks_text (check + 1) boxes

-- the line `pick` with its numbers
unfoldable pub pick_line : List ℕ → List ℕ
pick_line pick = codes "pick" ++ (flat_map number_word pick ++ codes "\n")

-- the checks and the line `end`
unfoldable pub boxes_text : List BoxTree → List ℕ
boxes_text boxes = checks_text 1 boxes ++ codes "end\n"

abbrev pub verdict_word : Verdict → List ℕ
verdict_word Refuted = codes "refuted"

abbrev pub proof_word : Proof → List ℕ
proof_word (Built pick boxes) = codes "built"
proof_word (Tree verdict tree) = verdict_word verdict

abbrev pub proof_text : Proof → List ℕ
proof_text (Built pick boxes) = pick_line pick ++ boxes_text boxes
proof_text (Tree verdict tree) = tree_text tree

-- the line `steps N`
unfoldable pub steps_line : ℕ → List ℕ
steps_line steps = codes "steps " ++ (decimal steps ++ codes "\n")

-- the first three lines
unfoldable pub heading_text : List ℕ → ℕ → List ℕ
heading_text word steps = codes "ato-certificate 1\nverdict " ++ (word ++ (codes "\nsteps " ++ (decimal steps ++ codes "\n")))

-- the text of a certificate
abbrev pub cert_text : Cert → List ℕ
cert_text cert = heading_text (proof_word cert.proof) cert.steps ++ proof_text cert.proof
