-- The next member of an instance, and the innermost of open instances.
use Rattle.std.proofs.Common.{◌≡◌, ℕ, List, [], ◌∷◌, ◌++◌, reverse, length, refl, ap, ◌∙◌, arith}
use Rattle.std.proofs.lemmas.List.{reverse-append}
use Rattle.ato_ast.specs.declared.names.Named.{Named}
use Rattle.ato_files.specs.Members as kinds
use Rattle.ato_instance_tree.specs.declared.type_members.Kind.{Kind}
use Rattle.ato_instance_tree.specs.declared.type_members.Kind.TheVariants as kind
use Rattle.ato_instance_tree.specs.declared.type_members.Member.{Member}
use Rattle.ato_instance_tree.specs.declared.type_members.Member.TheVariants as member
use Rattle.ato_instance_tree.specs.Kept.{kind_of, member_of}
use Rattle.ato_instance_tree.specs.Members as members
use Rattle.ato_instance_tree.specs.Members.{named}
use Rattle.ato_elab.specs.declared.frames.Frame.{Frame}
use Rattle.ato_elab.specs.declared.frames.Given.{Given}
use Rattle.ato_elab.specs.declared.frames.Growth.{Growth}
use Rattle.ato_elab.specs.Building.{left, next_of, IsBuilding, IsHere}

pub here_named : (f : Frame) (m : Member) (n : Named) (k : Kind) → m ≡ member.Named n k → left f ≡ member_of m ∷ left (next_of f) → left f ≡ named n (kind_of k) ∷ left (next_of f)
here_named f m n k is here = here ∙ ap (λ (x : Member). member_of x ∷ left (next_of f)) is

pub here_leaf : (f : Frame) (m : Member) (n : Named) (k l : Kind) → m ≡ member.Named n k → k ≡ l → left f ≡ member_of m ∷ left (next_of f) → left f ≡ named n (kind_of l) ∷ left (next_of f)
here_leaf f m n k l is kind_is here = here_named f m n k is here ∙ ap (λ (x : Kind). named n (kind_of x) ∷ left (next_of f)) kind_is

pub here_instance : (given : Given) (entry : ℕ) (fs : List Frame) (f : Frame) (g : Growth) (m : Member) (n type : Named) (k : Kind) → m ≡ member.Named n k → k ≡ kind.Instance type
    → left f ≡ member_of m ∷ left (next_of f) → IsBuilding given entry (f ∷ fs) g → IsHere given entry fs f n.name g
here_instance given entry fs f g m n type k is kind_is here was = record {
  called = n;
  type = type;
  same = refl;
  here = here_leaf f m n k (kind.Instance type) is kind_is here;
  building = was;
}

-- the last of the open instances is the innermost
pub popped : (items more : List Frame) (f : Frame) → items ≡ more ++ f ∷ [] → reverse items ≡ f ∷ reverse more
popped items more f e = ap reverse e ∙ reverse-append more (f ∷ [])

pub none_open : (fs : List Frame) → length fs ≡ 0 → reverse fs ≡ []
none_open [] e = refl
none_open (f ∷ fs) e = absurd (omega arith)
