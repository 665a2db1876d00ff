-- Groups of pins by their places are those of which nets are made.
use Rattle.std.proofs.Common.{◌≡◌, ℕ, zero, suc, ◌<◌, ◌≤◌, true, List, [], ◌∷◌, ◌++◌, map, take, length, get_or, refl, ap, sym, ◌∙◌, subst, arith}
use Rattle.std.specs.Prelude.{All, Contains}
use Rattle.std.proofs.Math.Seq.{take-suc}
use Rattle.std.proofs.lemmas.Bool.{eqb-true, eq-eqb}
use Rattle.std.proofs.lemmas.List.{length-map, map-append, take_all, get_or_default}
use Rattle.ato_base.specs.Classes.{Parts, no_point, related, other, Classes, no_class, a_class}
use Rattle.ato_base.specs.declared.nets.Net.{Net}
use Rattle.ato_base.proofs.ClassLaws.{class_points, classes_same, classes_map}
use Rattle.ato_files.specs.declared.program.Program.{Program}
use Rattle.ato_nets.specs.Groups.{numbers_below}
use Rattle.ato_nets.proofs.GroupLemmas.{below}
use Rattle.ato_links.specs.Nets.{Pin}
use Rattle.ato_links.specs.ByNumbers.{groups, have_one_number, group_net, nets_by}
use Rattle.ato_links.proofs.NetLaws.{groups_are}
use Rattle.ato_netlists.specs.Boards.{IsPinAt, numbered_pins, pin_at}
use Rattle.ato_netlists.specs.Pins.{AreOneClass}

-- ---- there is one list of classes at most

module _ {P : Type 0} (R : P → P → Type 0) where
  -- Two ways to tell points apart are one.
  record AreSame {X : Type 0} (a b c d : X) : Type 0 where
    one : a ≡ b
    other : c ≡ d

  parts_one : {p : P} {xs a b c d : List P} → Parts R p xs a c → Parts R p xs b d → AreSame a b c d
  parts_one no_point no_point = record { one = refl; other = refl }
  parts_one (related {x} r parts) (related s more) = let it = parts_one parts more in record { one = ap (λ l. x ∷ l) it.one; other = it.other }
  parts_one (related r parts) (other f more) = absurd (f r)
  parts_one (other f parts) (related r more) = absurd (f r)
  parts_one (other {x} f parts) (other g more) = let it = parts_one parts more in record { one = it.one; other = ap (λ l. x ∷ l) it.other }

  classes_one : {xs : List P} {cs ds : List (List P)} → Classes R xs cs → Classes R xs ds → cs ≡ ds
  classes_one no_class no_class = refl
  classes_one (a_class {p} {classes = cs} parts rest) (a_class {ins = ins} {classes = ds} more others) =
      let it = parts_one parts more in
      ap (λ l. (p ∷ l) ∷ cs) it.one ∙ ap (λ l. (p ∷ ins) ∷ l) (classes_one rest (subst (λ l. Classes R l ds) (sym it.other) others))

  pub some_each : {xs : List P} {cs : List (List P)} → Classes R xs cs → All (λ c. 0 < length c) cs
  some_each no_class = λ k d h. absurd (omega (arith, h))
  some_each (a_class {p} {ins = ins} {classes = cs} parts rest) = λ k d h. by p ins cs k d h (some_each rest)
    where
      by : (p : P) (ins : List P) (cs : List (List P)) (k : ℕ) (d : List P) → k < length ((p ∷ ins) ∷ cs) → All (λ c. 0 < length c) cs → 0 < length (get_or ((p ∷ ins) ∷ cs) k d)
      by p ins cs zero d h all = omega arith
      by p ins cs (suc k) d h all = all k d (omega (arith, h))

-- ---- groups of places

pub places_within : (of pins : List ℕ) (gs : List (List ℕ)) → Classes (AreOneClass of pins) (numbers_below (length pins)) gs → All (λ group. All (λ place. place < length pins) group) gs
places_within of pins gs classes k d h j e l =
    let group : List ℕ = get_or gs k d in
    below (length pins) (get_or group j e) (class_points (AreOneClass of pins) classes group (get_or group j e) (k, h, get_or_default gs k group d h) (j, l, get_or_default group j (get_or group j e) e l))

map_at : {X Y : Type 0} (f : X → Y) (xs : List X) (i : ℕ) (d : X) (e : Y) → i < length xs → get_or (map f xs) i e ≡ f (get_or xs i d)
map_at f [] i d e h = absurd (omega (arith, h))
map_at f (x ∷ xs) zero d e h = refl
map_at f (x ∷ xs) (suc i) d e h = map_at f xs i d e (omega (arith, h))

module _ (program : Program) (entry : ℕ) (pins : List ℕ) (is : pins ≡ map (λ p. p.0) (numbered_pins program entry)) where
  pub as_many : length pins ≡ length (numbered_pins program entry)
  as_many = ap length is ∙ length-map (numbered_pins program entry) (λ p. p.0)

  pub number_of : (place : ℕ) → place < length pins → get_or pins place 0 ≡ (pin_at program entry place).0
  number_of place h = ap (λ l. get_or l place 0) is ∙ map_at (λ (p : ℕ × Pin). p.0) (numbered_pins program entry) place (0, record { path = []; label = [] }) 0 (omega (arith, h, as_many))

  -- the pin at a place
  pub pin_there : (place : ℕ) → place < length pins → IsPinAt program entry (get_or pins place 0) (pin_at program entry place).1
  pin_there place h =
      let all = numbered_pins program entry in
      let p : ℕ × Pin = pin_at program entry place in
      record { is = subst (λ n. Contains all (n, p.1)) (sym (number_of place h)) (place, omega (arith, h, as_many), get_or_default all place p (0, record { path = []; label = [] }) (omega (arith, h, as_many))) }

  all_places : (n : ℕ) → n ≤ length pins → map (pin_at program entry) (numbers_below n) ≡ take n (numbered_pins program entry)
  all_places zero h = refl
  all_places (suc n) h =
      map-append (pin_at program entry) (numbers_below n) (n ∷ [])
      ∙ ap (λ l. l ++ pin_at program entry n ∷ []) (all_places n (omega (arith, h)))
      ∙ sym (take-suc (numbered_pins program entry) n (0, record { path = []; label = [] }) (omega (arith, h, as_many)))

  -- places of one class have pins of one number
  one_number : (of : List ℕ) (i j : ℕ) → i < length pins → j < length pins
      → (AreOneClass of pins i j → have_one_number of (pin_at program entry i) (pin_at program entry j) ≡ true)
      × (have_one_number of (pin_at program entry i) (pin_at program entry j) ≡ true → AreOneClass of pins i j)
  one_number of i j h k = (
    (λ e. eq-eqb (get_or of (pin_at program entry i).0 0) (get_or of (pin_at program entry j).0 0) (ap (λ n. get_or of n 0) (sym (number_of i h)) ∙ e ∙ ap (λ n. get_or of n 0) (number_of j k))),
    (λ t. ap (λ n. get_or of n 0) (number_of i h) ∙ eqb-true (get_or of (pin_at program entry i).0 0) (get_or of (pin_at program entry j).0 0) t ∙ ap (λ n. get_or of n 0) (sym (number_of j k))),
  )

  groups_by : (of : List ℕ) (gs : List (List ℕ)) → Classes (AreOneClass of pins) (numbers_below (length pins)) gs
      → map (map (pin_at program entry)) gs ≡ groups (have_one_number of) (length (numbered_pins program entry)) (numbered_pins program entry)
  groups_by of gs classes =
      let all = numbered_pins program entry in
      let whole : map (pin_at program entry) (numbers_below (length pins)) ≡ all = all_places (length pins) (omega arith) ∙ take_all (length pins) all (omega (arith, as_many)) in
      let by_places = classes_map (pin_at program entry) (λ (a b : ℕ × Pin). have_one_number of a b ≡ true)
      (classes_same (AreOneClass of pins) (λ i j. have_one_number of (pin_at program entry i) (pin_at program entry j) ≡ true) classes
      (λ i j m n. one_number of i j (below (length pins) i m) (below (length pins) j n))) in
      classes_one (λ (a b : ℕ × Pin). have_one_number of a b ≡ true)
      (subst (λ l. Classes (λ (a b : ℕ × Pin). have_one_number of a b ≡ true) l (map (map (pin_at program entry)) gs)) whole by_places)
      (groups_are (have_one_number of) (length all) all (omega arith))

  maps : {X Y Z : Type 0} (f : Y → Z) (g : X → Y) (xs : List X) → map (λ x. f (g x)) xs ≡ map f (map g xs)
  maps f g [] = refl
  maps f g (x ∷ xs) = ap (λ l. f (g x) ∷ l) (maps f g xs)

  -- the nets of groups of places
  pub nets_made : (names : List (List ℕ)) (of : List ℕ) (gs : List (List ℕ)) (nets : List Net) → Classes (AreOneClass of pins) (numbers_below (length pins)) gs
      → nets ≡ map (λ group. group_net program.files entry names of (map (pin_at program entry) group)) gs → nets ≡ nets_by program.files entry names of
  nets_made names of gs nets classes e =
      e ∙ maps (group_net program.files entry names of) (map (pin_at program entry)) gs ∙ ap (map (group_net program.files entry names of)) (groups_by of gs classes)
