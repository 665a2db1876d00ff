-- The links of two instances are the same by numbers and by places.
use Rattle.std.proofs.Common.{◌≡◌, ℕ, zero, suc, Bool, true, false, ◌&&◌, if◌then◌else◌, List, [], ◌∷◌, length, Option, Some, None, inl, inr, refl, ap, sym, subst, ◌∙◌}
use Rattle.std.specs.Prelude.{slice_get}
use Rattle.std.specs.List.{flat_map}
use Rattle.std.specs.Option.{option_and_then, option_map}
use Rattle.std.proofs.lemmas.Option.{none-some, same_Some}
use Rattle.ato_ast.specs.declared.names.Named.{Named}
use Rattle.ato_files.specs.declared.program.SourceFile.{SourceFile}
use Rattle.ato_files.specs.declared.program.Program.{Program}
use Rattle.ato_files.specs.Lists.{Among, here}
use Rattle.ato_files.specs.Blocks.{blocks_of}
use Rattle.ato_files.specs.Lineages.{descends}
use Rattle.ato_files.specs.Members.{Kind}
use Rattle.ato_instance_tree.specs.declared.tree.Node.{Node}
use Rattle.ato_instance_tree.specs.declared.tree.NodeKind.{NodeKind}
use Rattle.ato_instance_tree.specs.Types.{type_kind}
use Rattle.ato_instance_tree.specs.Members.{Member, pin, named, members}
use Rattle.ato_instance_tree.specs.Walk.{type_at}
use Rattle.ato_instance_tree.specs.Order.{Spot, made_at, nodes}
use Rattle.ato_instance_tree.specs.Laws.{SpotPlace, IsNodeAt}
use Rattle.ato_instance_tree.proofs.MemberLaws.{agree}
use Rattle.ato_instance_tree.proofs.NodeLaws.{into_flat_map}
use Rattle.ato_instance_tree.proofs.NodesLaws.{into, out}
use Rattle.ato_instance_tree.proofs.PlaceLaws.{place_in, kind_place, kind_there, member_there, has_member, has_node}
use Rattle.ato_instance_tree.proofs.SpotLaws.{IsIn, at_in, in_flat_map, members_differ}
use Rattle.ato_links.specs.Links as by_path
use Rattle.ato_links.specs.Links.{Link, join, clash, point, quantity, inside, nothing, is_interface_kind, is_interface, older, shared, shared_at, member_links, shared_links, instance_links, side_at}
use Rattle.ato_connections.specs.declared.sides.Side.{Side}
use Rattle.ato_connections.specs.declared.sides.Side.TheVariants as side
use Rattle.ato_connections.specs.NodeLinks as by_number
use Rattle.ato_connections.specs.NodeLinks.{NodeLink, elder, elder_of, elder_links, interface_at, interface_of, member_side, names_in, pair_links}
use Rattle.ato_connections.specs.Placing.{IsSide, IsLink, AreSame, IsKnown, PairsAgree, SidesAgree}
use Rattle.ato_connections.proofs.ChildLaws.{node_said, spot_named, named_spot}
use Rattle.ato_connections.proofs.MemberSides.{stand}

-- ---- links of two sides

-- The sides are of one kind, and of one place.
data IsSame (spots : List Spot) : by_path.Side → Side → Type 0 where
  points : {at : SpotPlace} {number : ℕ} → IsNodeAt spots at number → IsSame spots (point at) (side.Point number)
  quantities : {at : SpotPlace} {number : ℕ} → IsNodeAt spots at number → IsSame spots (quantity at) (side.Quantity number)
  insides : {path : List ℕ} {number : ℕ} → slice_get spots number ≡ Some (made_at path) → IsSame spots (inside path) (side.Inside number)
  nothings : IsSame spots nothing side.Nothing

is_same : (spots : List Spot) (a : by_path.Side) (x : Side) → IsSide spots a x → IsSame spots a x
is_same spots (point at) (side.Point number) h = points h
is_same spots (point at) (side.Quantity number) h = absurd h
is_same spots (point at) (side.Inside number) h = absurd h
is_same spots (point at) side.Nothing h = absurd h
is_same spots (quantity at) (side.Point number) h = absurd h
is_same spots (quantity at) (side.Quantity number) h = quantities h
is_same spots (quantity at) (side.Inside number) h = absurd h
is_same spots (quantity at) side.Nothing h = absurd h
is_same spots (inside path) (side.Point number) h = absurd h
is_same spots (inside path) (side.Quantity number) h = absurd h
is_same spots (inside path) (side.Inside number) h = insides h
is_same spots (inside path) side.Nothing h = absurd h
is_same spots nothing (side.Point number) h = absurd h
is_same spots nothing (side.Quantity number) h = absurd h
is_same spots nothing (side.Inside number) h = absurd h
is_same spots nothing side.Nothing h = nothings

lone : {X : Type 0} (x y : X) → Among x (y ∷ []) → x ≡ y
lone x y h = elim (into x (y ∷ []) h) [ inl e ↦ e | inr k ↦ absurd k ]

-- one link each
one_same : (spots : List Spot) (l : Link) (m : NodeLink) → IsLink spots l m → AreSame spots (l ∷ []) (m ∷ [])
one_same spots l m is = record {
  there = λ k h. (m, here, subst (λ (x : Link). IsLink spots x m) (sym (lone k l h)) is);
  back = λ n h. (l, here, subst (IsLink spots l) (sym (lone n m h)) is);
}

none_same : (spots : List Spot) → AreSame spots [] []
none_same spots = record { there = λ l h. elim h [ ]; back = λ m h. elim h [ ] }

both_clash : (spots : List Spot) → AreSame spots (clash ∷ []) (by_number.clash ∷ [])
both_clash spots = one_same spots clash by_number.clash tt

both_join : (spots : List Spot) (a b : SpotPlace) (p q : ℕ) → IsNodeAt spots a p → IsNodeAt spots b q → AreSame spots (join a b ∷ []) (by_number.join p q ∷ [])
both_join spots a b p q h k = one_same spots (join a b) (by_number.join p q) (h, k)

-- The links of two instances are the same, by places and by numbers.
abbrev AreDeeper : List Spot → (List ℕ → List ℕ → List Link) → (ℕ → ℕ → List NodeLink) → Type 0
AreDeeper spots f g = (i j : ℕ) (p q : List ℕ) → slice_get spots i ≡ Some (made_at p) → slice_get spots j ≡ Some (made_at q) → AreSame spots (f p q) (g i j)

sides_same : (spots : List Spot) (f : List ℕ → List ℕ → List Link) (g : ℕ → ℕ → List NodeLink) → AreDeeper spots f g
    → {a b : by_path.Side} {x y : Side} → IsSame spots a x → IsSame spots b y
    → AreSame spots (by_path.side_links f a b) (by_number.side_links g x y)
sides_same spots f g deeper (points {at = a} {number = p} h) (points {at = b} {number = q} k) = both_join spots a b p q h k
sides_same spots f g deeper (quantities {at = a} {number = p} h) (quantities {at = b} {number = q} k) = both_join spots a b p q h k
sides_same spots f g deeper (insides {path = p} {number = i} h) (insides {path = q} {number = j} k) = deeper i j p q h k
sides_same spots f g deeper (points h) (quantities k) = both_clash spots
sides_same spots f g deeper (points h) (insides k) = both_clash spots
sides_same spots f g deeper (points h) nothings = both_clash spots
sides_same spots f g deeper (quantities h) (points k) = both_clash spots
sides_same spots f g deeper (quantities h) (insides k) = both_clash spots
sides_same spots f g deeper (quantities h) nothings = both_clash spots
sides_same spots f g deeper (insides h) (points k) = both_clash spots
sides_same spots f g deeper (insides h) (quantities k) = both_clash spots
sides_same spots f g deeper (insides h) nothings = both_clash spots
sides_same spots f g deeper nothings (points k) = both_clash spots
sides_same spots f g deeper nothings (quantities k) = both_clash spots
sides_same spots f g deeper nothings (insides k) = both_clash spots
sides_same spots f g deeper nothings nothings = both_clash spots

pub side_links_same : (spots : List Spot) (f : List ℕ → List ℕ → List Link) (g : ℕ → ℕ → List NodeLink) → AreDeeper spots f g
    → (a b : by_path.Side) (x y : Side)
    → IsSide spots a x → IsSide spots b y → AreSame spots (by_path.side_links f a b) (by_number.side_links g x y)
side_links_same spots f g deeper a b x y h k = sides_same spots f g deeper (is_same spots a x h) (is_same spots b y k)

-- ---- the interface that two instances have in common

maybe_some : (files : List SourceFile) (o : Option ℕ) (kind : NodeKind) → option_map (type_kind files) o ≡ Some kind
    → (type : ℕ) × (o ≡ Some type) × (type_kind files type ≡ kind)
maybe_some files None kind e = absurd (none-some kind e)
maybe_some files (Some type) kind e = (type, refl, same_Some (type_kind files type) kind e)

module _ (program : Program) (entry : ℕ) (ns : List Node) (known : IsKnown program entry ns) where
  abbrev all : List Spot
  all = nodes program.files entry

  -- the type of an instance, by its path and by its number
  record HasType (number : ℕ) (path : List ℕ) : Type 0 where
    type : ℕ
    at : type_at program.files entry path ≡ Some type
    by : interface_at ns number ≡ (if is_interface program.files type then Some type else None)

  has_type : (number : ℕ) (path : List ℕ) → slice_get all number ≡ Some (made_at path) → HasType number path
  has_type number path e =
      let s = node_said program entry ns known number (made_at path) e in
      let t = maybe_some program.files (type_at program.files entry path) s.node.kind s.kind in
      record {
        type = t.0;
        at = t.1;
        by = ap (option_and_then interface_of) s.at ∙ ap (λ (o : Option ℕ). if is_interface_kind s.node.kind then o else None) (sym s.block ∙ t.1)
            ∙ ap (λ (k : NodeKind). if is_interface_kind k then Some t.0 else None) (sym t.2);
      }

  -- The type is that of the instance of a number.
  record IsOf (type number : ℕ) : Type 0 where
    path : List ℕ
    is : slice_get all number ≡ Some (made_at path)
    at : type_at program.files entry path ≡ Some type

  abbrev IsElder : Option ℕ → Option ℕ → Type 0
  IsElder None None = Unit {0}
  IsElder (Some type) (Some number) = IsOf type number
  IsElder None (Some number) = ⊥
  IsElder (Some type) None = ⊥

  older_is : (i j a b : ℕ) → IsOf a i → IsOf b j → IsElder (older program.files a b) (elder_of program.files i j a b)
  older_is i j a b h k = by (descends program.files b a) (descends program.files a b) where
    by : (x y : Bool) → IsElder (if x then Some a else (if y then Some b else None)) (if x then Some i else (if y then Some j else None))
    by true y = h
    by false true = k
    by false false = tt

  shared_is : (i j : ℕ) (p q : List ℕ) → slice_get all i ≡ Some (made_at p) → slice_get all j ≡ Some (made_at q)
      → IsElder (shared_at program.files entry p q) (elder program.files ns i j)
  shared_is i j p q e f =
      let s = has_type i p e in let t = has_type j q f in
      let left : shared_at program.files entry p q ≡ shared program.files s.type t.type =
      ap (option_and_then (λ a. option_and_then (shared program.files a) (type_at program.files entry q))) s.at
      ∙ ap (option_and_then (shared program.files s.type)) t.at in
      let right : elder program.files ns i j
      ≡ option_and_then (λ a. option_and_then (elder_of program.files i j a) (if is_interface program.files t.type then Some t.type else None))
      (if is_interface program.files s.type then Some s.type else None) =
      ap (λ o. option_and_then (λ a. option_and_then (elder_of program.files i j a) o) (interface_at ns i)) t.by
      ∙ ap (option_and_then (λ a. option_and_then (elder_of program.files i j a) (if is_interface program.files t.type then Some t.type else None))) s.by in
      subst (λ o. IsElder o (elder program.files ns i j)) (sym left) (subst (IsElder (shared program.files s.type t.type)) (sym right)
      (by s.type t.type (is_interface program.files s.type) (is_interface program.files t.type)
      (older_is i j s.type t.type (record { path = p; is = e; at = s.at }) (record { path = q; is = f; at = t.at }))))
    where
      by : (a b : ℕ) (x y : Bool) → IsElder (older program.files a b) (elder_of program.files i j a b)
          → IsElder (if x && y then older program.files a b else None)
          (option_and_then (λ c. option_and_then (elder_of program.files i j c) (if y then Some b else None)) (if x then Some a else None))
      by a b true true h = h
      by a b true false h = tt
      by a b false true h = tt
      by a b false false h = tt

  -- ---- the members of an instance

  -- The name of this number has a text, which is a name in the instance of a number.
  record IsText (number name : ℕ) : Type 0 where
    text : List ℕ
    called : slice_get program.names name ≡ Some text
    among : IsIn text (names_in ns number)

  name_text : (number type : ℕ) (n : Named) (k : Kind) → IsOf type number → IsIn (named n k) (members program.files (Some type)) → IsText number n.name.0
  name_text number type n k is h =
      let ms = members program.files (type_at program.files entry is.path) in
      let there = subst (λ o. IsIn (named n k) (members program.files o)) (sym is.at) h in
      let member = sym ((agree program.files (type_at program.files entry is.path)).names n.name.0)
      ∙ kind_there ms n k (members_differ program.files (type_at program.files entry is.path)) there in
      let s = has_node program.files entry known.most known.below known.sound is.path n.name.0 k (at_in (made_at is.path) all number is.is) member in
      let j = place_in s.0 all s.1 in
      let t = spot_named program entry ns known number j.0 n.name.0 is.path s.0 is.is j.1 (kind_place is.path n.name.0 k s.0 s.2) in
      record { text = t.0; called = t.1; among = t.2 }

  -- The text is the name of a member of a type.
  record IsMember (type : ℕ) (text : List ℕ) : Type 0 where
    name : Named
    kind : Kind
    is : IsIn (named name kind) (members program.files (Some type))
    called : slice_get program.names name.name.0 ≡ Some text

  text_member : (number type : ℕ) (text : List ℕ) → IsOf type number → IsIn text (names_in ns number) → IsMember type text
  text_member number type text is h =
      let ms = members program.files (type_at program.files entry is.path) in
      let s = named_spot program entry ns known number is.path text is.is h in
      let k = has_member program.files entry is.path s.name s.spot (at_in s.spot all s.number s.is) s.at in
      let n = member_there ms s.name k.0 ((agree program.files (type_at program.files entry is.path)).names s.name ∙ k.1) in
      record {
        name = n.0;
        kind = k.0;
        is = subst (λ o. IsIn (named n.0 k.0) (members program.files o)) is.at n.2;
        called = ap (slice_get program.names) n.1 ∙ s.called;
      }

  -- ---- the links of two instances

  module _ (f : List ℕ → List ℕ → List Link) (g : ℕ → ℕ → List NodeLink) (deeper : AreDeeper (nodes program.files entry) f g) (i j : ℕ) (p q : List ℕ)
      (at_i : slice_get (nodes program.files entry) i ≡ Some (made_at p)) (at_j : slice_get (nodes program.files entry) j ≡ Some (made_at q)) where
    abbrev left : Member → List Link
    left = member_links program.files entry f p q

    abbrev right : List ℕ → List NodeLink
    right text = by_number.side_links g (member_side ns i text) (member_side ns j text)

    one_name : (name : ℕ) (text : List ℕ) → slice_get program.names name ≡ Some text
        → AreSame all (by_path.side_links f (side_at program.files entry p name) (side_at program.files entry q name)) (right text)
    one_name name text e = side_links_same all f g deeper (side_at program.files entry p name) (side_at program.files entry q name)
        (member_side ns i text) (member_side ns j text)
        (stand program entry i name ns p text known (record { is = at_i }) e) (stand program entry j name ns q text known (record { is = at_j }) e)

    from_member : (number type : ℕ) → IsOf type number → (m : Member) (l : Link) → IsIn m (members program.files (Some type)) → IsIn l (left m)
        → (n : NodeLink) × Among n (flat_map right (names_in ns number)) × IsLink all l n
    from_member number type is (pin text) l h k = absurd k
    from_member number type is (named n kind) l h k =
        let t = name_text number type n kind is h in
        let m = (one_name n.name.0 t.text t.called).there l (out l (left (named n kind)) k) in
        (m.0, out m.0 (flat_map right (names_in ns number)) (into_flat_map right m.0 t.text (names_in ns number) t.among (into m.0 (right t.text) m.1)), m.2)

    from_name : (number type : ℕ) → IsOf type number → (text : List ℕ) (n : NodeLink) → IsIn text (names_in ns number) → IsIn n (right text)
        → (l : Link) × Among l (flat_map left (members program.files (Some type))) × IsLink all l n
    from_name number type is text n h k =
        let m = text_member number type text is h in
        let l = (one_name m.name.name.0 text m.called).back n (out n (right text) k) in (
          l.0,
          out l.0 (flat_map left (members program.files (Some type)))
              (into_flat_map left l.0 (named m.name m.kind) (members program.files (Some type)) m.is (into l.0 (left (named m.name m.kind)) l.1)),
          l.2,
        )

    members_same : (number type : ℕ) → IsOf type number → AreSame all (flat_map left (members program.files (Some type))) (flat_map right (names_in ns number))
    members_same number type is = record {
      there = λ l h.
          let m = in_flat_map left l (members program.files (Some type)) (into l (flat_map left (members program.files (Some type))) h) in
          from_member number type is m.0 l m.1 m.2;
      back = λ n h.
          let t = in_flat_map right n (names_in ns number) (into n (flat_map right (names_in ns number)) h) in
          from_name number type is t.0 n t.1 t.2;
    }

    elder_same : (o u : Option ℕ) → IsElder o u → AreSame all (shared_links program.files entry f p q o) (elder_links ns g i j u)
    elder_same None None h = both_clash all
    elder_same None (Some number) h = absurd h
    elder_same (Some type) None h = absurd h
    elder_same (Some type) (Some number) h = members_same number type h

  pairs_same : (depth : ℕ) → AreDeeper all (instance_links program.files entry depth) (pair_links program.files ns depth)
  pairs_same zero i j p q e f = none_same all
  pairs_same (suc depth) i j p q e f = elder_same (instance_links program.files entry depth) (pair_links program.files ns depth) (pairs_same depth) i j p q e f
      (shared_at program.files entry p q) (elder program.files ns i j) (shared_is i j p q e f)

pub pairs : PairsAgree
pairs program entry depth i j ns p q known at_i at_j = pairs_same program entry ns known depth i j p q at_i.is at_j.is

pub sides : SidesAgree
sides program entry ns a b x y known h k =
    let depth = suc (length (blocks_of program.files)) in
    side_links_same (nodes program.files entry) (instance_links program.files entry depth) (pair_links program.files ns depth)
    (pairs_same program entry ns known depth) a b x y h k
