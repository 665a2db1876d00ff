-- The parts of a net list are made one by one.
use Rattle.std.proofs.Common.{◌≡◌, ℕ, List, [], ◌∷◌, ◌++◌, inl, inr, refl, ap, sym, ◌∙◌, append_assoc, append-nil}
use Rattle.std.specs.Prelude.{◌⊎◌}
use Rattle.std.specs.List.{AllZip}
use Rattle.ato_base.specs.declared.nets.Comp.{Comp}
use Rattle.ato_base.specs.declared.nets.PartRow.{PartRow}
use Rattle.ato_files.specs.declared.program.Program.{Program}
use Rattle.ato_links.specs.Nets.{comp_of, comps_of}
use Rattle.ato_links.specs.Parts.{has_kind}
use Rattle.ato_netlists.specs.declared.parts.Part.{Part}
use Rattle.ato_netlists.specs.Comps.{comps_by}
use Rattle.ato_netlists.specs.Parts.{IsPart}

-- one part more
pub comps_more : (found more : List Comp) (ps rest : List Part) (rs others : List PartRow) (p : Part) (r : PartRow) (all : List Comp) → ps ≡ p ∷ rest → rs ≡ r ∷ others
    → more ≡ found ++ comp_of p.slot r ∷ [] → found ++ comps_by ps rs ≡ all → more ++ comps_by rest others ≡ all
comps_more found more ps rest rs others p r all e f pushed so_far =
    ap (λ l. l ++ comps_by rest others) pushed ∙ append_assoc found (comp_of p.slot r ∷ []) (comps_by rest others)
    ∙ ap (λ l. found ++ comps_by (p ∷ rest) l) (sym f) ∙ ap (λ l. found ++ comps_by l rs) (sym e) ∙ so_far

comps_none : (ps : List Part) (rs : List PartRow) → (ps ≡ []) ⊎ (rs ≡ []) → comps_by ps rs ≡ []
comps_none [] rs e = refl
comps_none (p ∷ ps) [] e = refl
comps_none (p ∷ ps) (r ∷ rs) (inl e) = cc
comps_none (p ∷ ps) (r ∷ rs) (inr e) = cc

-- no part more
pub comps_end : (found : List Comp) (ps : List Part) (rs : List PartRow) (all : List Comp) → (ps ≡ []) ⊎ (rs ≡ []) → found ++ comps_by ps rs ≡ all → found ≡ all
comps_end found ps rs all e so_far = sym (append-nil found) ∙ ap (λ l. found ++ l) (sym (comps_none ps rs e)) ∙ so_far

-- the parts of a project are those of the tree
pub comps_are : (program : Program) (entry : ℕ) (paths : List (List ℕ)) (ps : List Part) (rows : List PartRow) → AllZip (IsPart program entry) paths ps
    → comps_by ps rows ≡ comps_of program.files entry program.names paths rows
comps_are program entry [] [] rows z = refl
comps_are program entry [] (p ∷ ps) rows z = absurd z
comps_are program entry (path ∷ paths) [] rows z = absurd z
comps_are program entry (path ∷ paths) (p ∷ ps) [] z = refl
comps_are program entry (path ∷ paths) (p ∷ ps) (row ∷ rows) z =
    ap (λ slot. comp_of slot row ∷ comps_by ps rows) z.0.slot ∙ ap (λ l. comp_of (has_kind program.files entry program.names path) row ∷ l) (comps_are program entry paths ps rows z.1)
