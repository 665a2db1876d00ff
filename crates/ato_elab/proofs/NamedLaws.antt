-- A name is found as the member that it is.
use Rattle.std.proofs.Common.{◌≡◌, ℕ, Bool, true, false, List, [], ◌∷◌, Option, Some, None, refl, sym, ap, ◌∙◌, subst}
use Rattle.std.specs.Prelude.{slice_get, position}
use Rattle.std.specs.Option.{option_map, option_and_then}
use Rattle.ato_files.specs.declared.program.SourceFile.{SourceFile}
use Rattle.ato_files.specs.Members.{Kind, signal, instance, param}
use Rattle.ato_instance_tree.specs.Order.{nodes}
use Rattle.ato_instance_tree.specs.Paths.{member_at}
use Rattle.ato_elab.specs.declared.built.Built.{Built}
use Rattle.ato_elab.specs.declared.finding_names.Sort.{Sort}
use Rattle.ato_elab.specs.Built.{IsBuilt, held, stands_under}
use Rattle.ato_elab.specs.Finding.{sort_at, named_in}
use Rattle.ato_elab.specs.Standing.{IsAt, HasKind, IsReady, Agrees}
use Rattle.ato_elab.specs.Landing.{SortsAgree, NamesAreFound, IsNamed, sort_of}
use Rattle.ato_elab.proofs.SaidLaws.{made_sort, signal_sort, param_sort}

pub sorts_agree : SortsAgree
sorts_agree files names entry number name built path signal is h = signal_sort is number path h
sorts_agree files names entry number name built path (instance type) is h = made_sort is number (name ∷ path) h
sorts_agree files names entry number name built path param is h = param_sort is number path h

-- what is held, with its sort
sorted : Built → Option ℕ → Option (ℕ × Sort)
sorted built o = option_and_then (λ number. option_map (λ (s : Sort). (number, s)) (sort_at built.nodes number)) o

named_is : (built : Built) (number name : ℕ) → named_in built number name ≡ sorted built (held built.places number name)
unfolding named_in sorted
named_is built number name = refl

sorted_some : (built : Built) (node : ℕ) (s : Sort) → sort_at built.nodes node ≡ Some s → sorted built (Some node) ≡ Some (node, s)
unfolding sorted
sorted_some built node s e = ap (λ (o : Option Sort). option_map (λ (s : Sort). (node, s)) o) e

sorted_none : (built : Built) → sorted built None ≡ None
unfolding sorted
sorted_none built = refl

by_kind : (files : List SourceFile) (names : List (List ℕ)) (entry name : ℕ) (built : Built) (path : List ℕ) (m : Option Kind) (o : Option ℕ) (r : Option (ℕ × Sort)) → IsBuilt files names entry built
    → Agrees (nodes files entry) path name m o → r ≡ sorted built o → IsNamed files entry path name m r
by_kind files names entry name built path None None r is a e = subst (λ (x : Option (ℕ × Sort)). IsNamed files entry path name None x) (sym (e ∙ sorted_none built)) tt
by_kind files names entry name built path None (Some node) r is a e = absurd a
by_kind files names entry name built path (Some k) None r is a e = absurd a
by_kind files names entry name built path (Some k) (Some node) r is a e =
    subst (λ (x : Option (ℕ × Sort)). IsNamed files entry path name (Some k) x) (sym (e ∙ sorted_some built node (sort_of k) (sorts_agree files names entry node name built path k is a))) (refl, a)

pub names_are_found : NamesAreFound
names_are_found files names entry number name built path ready at =
    by_kind files names entry name built path (member_at files entry path name) (position (stands_under path name) (nodes files entry)) (named_in built number name) ready.is
    (ready.whole.members number path name at) (named_is built number name ∙ ap (sorted built) (ready.is.places number name path at.is))
