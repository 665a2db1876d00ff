-- Two nodes have one number exactly where they are joined, and there is one list of classes at most.
use Rattle.std.proofs.Common.{◌≡◌, ℕ, ◌<◌, ◌≤◌, List, length, sym, ◌∙◌, subst, arith}
use Rattle.std.specs.List.{slice_index}
use Rattle.std.proofs.lemmas.Option.{same_Some, slice_get_within}
use Rattle.ato_base.proofs.JoinedLaws.{joined_trans, joined_sym}
use Rattle.ato_files.specs.declared.program.SourceFile.{SourceFile}
use Rattle.ato_instance_tree.specs.Order.{nodes}
use Rattle.ato_instance_tree.specs.Laws.{place_of}
use Rattle.ato_links.specs.Links.{Electrical}
use Rattle.ato_links.specs.Joins.{IsDirect, AreJoined, AreJoinedNodes, AreClasses, SameNumberIsJoined}

module _ (files : List SourceFile) (entry : ℕ) (library : Electrical) where
  back : (p q : ℕ) → AreJoinedNodes files entry library p q → AreJoinedNodes files entry library q p
  back p q j = record { one = j.other; other = j.one; is_one = j.is_other; is_other = j.is_one; joined = joined_sym (IsDirect files entry library) j.joined }

  on : (p q r : ℕ) → AreJoinedNodes files entry library p q → AreJoinedNodes files entry library q r → AreJoinedNodes files entry library p r
  on p q r j k = record {
    one = j.one;
    other = k.other;
    is_one = j.is_one;
    is_other = k.is_other;
    joined = joined_trans (IsDirect files entry library) j.joined (subst (λ s. AreJoined files entry library (place_of s) (place_of k.other)) (same_Some k.one j.other (sym k.is_one ∙ j.is_other)) k.joined);
  }

  module _ (of : List ℕ) (are : AreClasses files entry library of) where
    inside : (p : ℕ) → p < length (nodes files entry) → slice_index of p < length (nodes files entry)
    inside p l = let j = are.joined p l in slice_get_within (nodes files entry) (slice_index of p) j.other j.is_other

    pub alike : (p q : ℕ) → p < length (nodes files entry) → q < length (nodes files entry) → AreJoinedNodes files entry library p q → slice_index of p ≡ slice_index of q
    alike p q l m j =
        let lower : slice_index of p ≤ slice_index of q = are.least p (slice_index of q) (on p q (slice_index of q) j (are.joined q m)) in
        let upper : slice_index of q ≤ slice_index of p = are.least q (slice_index of p) (on q p (slice_index of p) (back p q j) (are.joined p l)) in
        omega (arith, lower, upper)

    pub meet : (p q : ℕ) → p < length (nodes files entry) → q < length (nodes files entry) → slice_index of p ≡ slice_index of q → AreJoinedNodes files entry library p q
    meet p q l m e = on p (slice_index of p) q (are.joined p l) (back q (slice_index of p) (subst (AreJoinedNodes files entry library q) (sym e) (are.joined q m)))

pub same_number : SameNumberIsJoined
same_number files entry library of are p q l m = (alike files entry library of are p q l m, meet files entry library of are p q l m)
