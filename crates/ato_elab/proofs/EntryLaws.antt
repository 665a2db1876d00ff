-- The entries of occurrences.
use Rattle.std.proofs.Common.{◌≡◌, ℕ, Bool, true, false, ◌&&◌, nat_eq, List, [], ◌∷◌, Option, Some, None, refl, sym, ap, ◌∙◌, subst}
use Rattle.std.specs.Prelude.{slice_get, map}
use Rattle.std.specs.Option.{option_map}
use Rattle.std.specs.Str.{bytes_eq}
use Rattle.std.proofs.lemmas.Option.{slice_get-map}
use Rattle.std.proofs.lemmas.Slice.Eq.{bytes_eq-Decides}
use Rattle.std.proofs.lemmas.Bool.{eqb-true, eqb-false}
use Rattle.ato_files.specs.declared.program.SourceFile.{SourceFile}
use Rattle.ato_instance_tree.specs.declared.tree.Occurrence.{Occurrence}
use Rattle.ato_instance_tree.specs.Walk.{Occ}
use Rattle.ato_instance_tree.specs.Order.{Spot, made_at, nodes, occurrences}
use Rattle.ato_instance_tree.specs.PathFaults.{same_occ}
use Rattle.ato_instance_tree.specs.Trees.{Where, SaidOcc, node_paths, occ_said, walked_said}
use Rattle.ato_elab.specs.declared.built.Built.{Built}
use Rattle.ato_elab.specs.Built.{IsBuilt, put_under, instance_spot}
use Rattle.ato_elab.specs.Late.{same_entry}
use Rattle.ato_elab.specs.Standing.{IsAt, IsReady}

-- the entry of an occurrence
pub record IsEntry (files : List SourceFile) (entry : ℕ) (all : List Occurrence) (number : ℕ) (o : Occ) : Type 0 where
  pub entry_of : Occurrence
  pub at : slice_get all number ≡ Some entry_of
  pub node : IsAt files entry entry_of.node o.path
  pub block : entry_of.block ≡ o.at.block
  pub line : entry_of.line ≡ o.at.line
  pub part : entry_of.part ≡ o.at.part

by_entry : (files : List SourceFile) (names : List (List ℕ)) (entry : ℕ) (paths : List Where) (all : List Occurrence) (number : ℕ) (o : Occ) (e : Option Occurrence) → slice_get all number ≡ e
    → option_map (occ_said paths) e ≡ Some (walked_said names o) → option_map (put_under (nodes files entry)) e ≡ Some (instance_spot o) → IsEntry files entry all number o
by_entry files names entry paths all number o None at said under = absurd (cc)
by_entry files names entry paths all number o (Some e) at said under =
    let same : occ_said paths e ≡ walked_said names o = cc in
    let there : put_under (nodes files entry) e ≡ instance_spot o = cc in
    record { entry_of = e; at = at; node = record { is = there }; block = ap (λ (s : SaidOcc). s.block) same; line = ap (λ (s : SaidOcc). s.line) same; part = ap (λ (s : SaidOcc). s.part) same }

pub entry_law : {files : List SourceFile} {names : List (List ℕ)} {entry : ℕ} {built : Built} → IsBuilt files names entry built → (number : ℕ) (o : Occ)
    → slice_get (occurrences files entry) number ≡ Some o → IsEntry files entry built.occurrences number o
entry_law {files = files} {names = names} {entry = entry} {built = built} is number o at =
    by_entry files names entry (node_paths built.nodes) built.occurrences number o (slice_get built.occurrences number) refl
    (sym (slice_get-map (occ_said (node_paths built.nodes)) built.occurrences number) ∙ ap (λ (ss : List SaidOcc). slice_get ss number) is.written
    ∙ slice_get-map (walked_said names) (occurrences files entry) number ∙ ap (option_map (walked_said names)) at)
    (sym (slice_get-map (put_under (nodes files entry)) built.occurrences number) ∙ ap (λ (ss : List (Option Spot)). slice_get ss number) is.under
    ∙ slice_get-map instance_spot (occurrences files entry) number ∙ ap (option_map instance_spot) at)

-- ---- the same occurrence

made_inj : (p q : List ℕ) → Some (made_at p) ≡ Some (made_at q) → p ≡ q
made_inj p q e = cc

one_path : {files : List SourceFile} {entry i : ℕ} {p q : List ℕ} → IsAt files entry i p → IsAt files entry i q → p ≡ q
one_path {p = p} {q = q} a b = made_inj p q (sym a.is ∙ b.is)

eqb_refl : (n : ℕ) → nat_eq n n ≡ true
eqb_refl n = by (nat_eq n n) refl
  where
    by : (b : Bool) → nat_eq n n ≡ b → nat_eq n n ≡ true
    by true e = e
    by false e = absurd (eqb-false n n e refl)

same_nodes : {files : List SourceFile} {names : List (List ℕ)} {entry : ℕ} {built : Built} → IsReady files names entry built → (i j : ℕ) (p q : List ℕ) → IsAt files entry i p → IsAt files entry j q
    → nat_eq i j ≡ bytes_eq p q
same_nodes {files = files} {entry = entry} ready i j p q a b = by (nat_eq i j) (bytes_eq p q) refl refl
  where
    by : (x y : Bool) → nat_eq i j ≡ x → bytes_eq p q ≡ y → nat_eq i j ≡ bytes_eq p q
    by true true e f = e ∙ sym f
    by false false e f = e ∙ sym f
    by true false e f = let same = eqb-true i j e in
        let there : IsAt files entry i q = subst (λ (k : ℕ). IsAt files entry k q) (sym same) b in
        e ∙ sym ((bytes_eq-Decides p q).1 (one_path a there))
    by false true e f = let same : p ≡ q = (bytes_eq-Decides p q).0 f in
        let there : IsAt files entry i q = subst (λ (r : List ℕ). IsAt files entry i r) same a in
        absurd (eqb-false i j e (ready.whole.once i j q there b))

and_law : (a b c d : Bool) → (((a && b) && c) && d) ≡ (a && ((b && c) && d))
and_law true b c d = refl
and_law false b c d = refl

pub same_law : {files : List SourceFile} {names : List (List ℕ)} {entry : ℕ} {built : Built} → IsReady files names entry built → (i j : ℕ) (o w : Occ)
    → (x : IsEntry files entry built.occurrences i o) (y : IsEntry files entry built.occurrences j w) → same_entry x.entry_of y.entry_of ≡ same_occ o w
same_law ready i j o w x y =
    and_law (nat_eq x.entry_of.node y.entry_of.node) (nat_eq x.entry_of.block y.entry_of.block) (nat_eq x.entry_of.line y.entry_of.line) (nat_eq x.entry_of.part y.entry_of.part)
    ∙ ap (λ (b : Bool). b && ((nat_eq x.entry_of.block y.entry_of.block && nat_eq x.entry_of.line y.entry_of.line) && nat_eq x.entry_of.part y.entry_of.part))
    (same_nodes ready x.entry_of.node y.entry_of.node o.path w.path x.node y.node)
    ∙ ap (λ (n : ℕ). bytes_eq o.path w.path && ((nat_eq n y.entry_of.block && nat_eq x.entry_of.line y.entry_of.line) && nat_eq x.entry_of.part y.entry_of.part)) x.block
    ∙ ap (λ (n : ℕ). bytes_eq o.path w.path && ((nat_eq o.at.block n && nat_eq x.entry_of.line y.entry_of.line) && nat_eq x.entry_of.part y.entry_of.part)) y.block
    ∙ ap (λ (n : ℕ). bytes_eq o.path w.path && ((nat_eq o.at.block w.at.block && nat_eq n y.entry_of.line) && nat_eq x.entry_of.part y.entry_of.part)) x.line
    ∙ ap (λ (n : ℕ). bytes_eq o.path w.path && ((nat_eq o.at.block w.at.block && nat_eq o.at.line n) && nat_eq x.entry_of.part y.entry_of.part)) y.line
    ∙ ap (λ (n : ℕ). bytes_eq o.path w.path && ((nat_eq o.at.block w.at.block && nat_eq o.at.line w.at.line) && nat_eq n y.entry_of.part)) x.part
    ∙ ap (λ (n : ℕ). bytes_eq o.path w.path && ((nat_eq o.at.block w.at.block && nat_eq o.at.line w.at.line) && nat_eq o.at.part n)) y.part
