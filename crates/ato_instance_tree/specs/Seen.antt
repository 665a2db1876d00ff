-- What was seen. Only private functions have clauses in these words.
use Rattle.std.specs.Prelude.{◌≡◌, ◌==◌, ℕ, Bool, false, List, [], ◌∷◌, map, nat_eq, if◌then◌else◌}
use Rattle.std.specs.List.{list_any, flat_map}
use Rattle.std.specs.Str.{bytes_eq}
use Rattle.ato_ast.specs.declared.paths.Path.{Path}
use Rattle.ato_ast.specs.declared.paths.Point.{Point}
use Rattle.ato_ast.specs.declared.stmts.Stmt.{Stmt}
use Rattle.ato_ast.specs.declared.stmts.Value.{Value}
use Rattle.ato_files.specs.Members.{param, point_decls, is_quantity, lone_of}
use Rattle.ato_instance_tree.specs.declared.label_set.LabelSet.{LabelSet}
use Rattle.ato_instance_tree.specs.declared.listing.Listing.{Listing}
use Rattle.ato_instance_tree.specs.Members.{Member, pin, named, firsts, is_declared}
use Rattle.ato_instance_tree.specs.Kept.{member_of}

-- whether a number is one of these
abbrev pub has : List ℕ → ℕ → Bool
has numbers n = list_any (nat_eq n) numbers

-- whether a text is held
abbrev pub holds : LabelSet → List ℕ → Bool
holds labels text = list_any (λ key. bytes_eq text key.now) labels.texts.keys

-- The numbers are those of the names that statements declare.
abbrev pub AreDeclared : List ℕ → List Stmt → Type 0
AreDeclared names all = (n : ℕ) → has names n ≡ is_declared all n

-- Points declare the name.
abbrev pub points_declare : ℕ → List Point → Bool
points_declare n ps = list_any (λ d. d.name.name.0 == n) (flat_map point_decls ps)

-- the member that an assignment makes, where no statement declares its name
abbrev pub unlisted : List Stmt → Path → Value → List Member
unlisted all p v = flat_map (λ n. if is_declared all n.name.0 then [] else named n param ∷ []) (if is_quantity v then lone_of p.steps p.pin else [])

-- the member has this name
abbrev pub is_name : ℕ → Member → Bool
is_name n (pin text) = false
is_name n (named m k) = n == m.name.0

-- the member is the pin of this label
abbrev pub is_label : List ℕ → Member → Bool
is_label text (pin other) = bytes_eq text other
is_label text (named m k) = false

-- These members were met, in this order, and each is listed where it stands first.
pub record IsListed (ms : List Member) (l : Listing) : Type 0 where
  pub found : map member_of l.found ≡ firsts [] ms
  pub names : (n : ℕ) → has l.names n ≡ list_any (is_name n) ms
  pub labels : (text : List ℕ) → holds l.labels text ≡ list_any (is_label text) ms
