-- When two places of a tree are joined, and the classes of joined nodes, as numbers.
use Rattle.std.specs.Prelude.{◌≡◌, ◌↔◌, ℕ, ◌<◌, ◌≤◌, List, length, Some, slice_get}
use Rattle.std.specs.List.{slice_index}
use Rattle.ato_base.specs.Joined.{Joined}
use Rattle.ato_files.specs.declared.program.SourceFile.{SourceFile}
use Rattle.ato_files.specs.Lists.{Among}
use Rattle.ato_instance_tree.specs.Order.{Spot, nodes}
use Rattle.ato_instance_tree.specs.Laws.{SpotPlace, place_of}
use Rattle.ato_links.specs.Links.{join, Electrical, links}

-- One written connection joins the two places, in this direction.
abbrev pub IsDirect : List SourceFile → ℕ → Electrical → SpotPlace → SpotPlace → Type 0
IsDirect files entry library a b = Among (join a b) (links files entry library)

-- The places are the same, or a chain of direct joins leads from one to the other.
abbrev pub AreJoined : List SourceFile → ℕ → Electrical → SpotPlace → SpotPlace → Type 0
AreJoined files entry library = Joined (IsDirect files entry library)

-- The nodes of these numbers are joined.
pub record AreJoinedNodes (files : List SourceFile) (entry : ℕ) (library : Electrical) (p q : ℕ) : Type 0 where
  pub one : Spot
  pub other : Spot
  pub is_one : slice_get (nodes files entry) p ≡ Some one
  pub is_other : slice_get (nodes files entry) q ≡ Some other
  pub joined : AreJoined files entry library (place_of one) (place_of other)

-- Each node has the least number of a node that is joined with it.
pub record AreClasses (files : List SourceFile) (entry : ℕ) (library : Electrical) (of : List ℕ) : Type 0 where
  pub size : length of ≡ length (nodes files entry)
  pub joined : (p : ℕ) → p < length (nodes files entry) → AreJoinedNodes files entry library p (slice_index of p)
  pub least : (p q : ℕ) → AreJoinedNodes files entry library p q → slice_index of p ≤ q

-- Two nodes have one number exactly where they are joined.
abbrev pub SameNumberIsJoined : Type 0
SameNumberIsJoined = (files : List SourceFile) (entry : ℕ) (library : Electrical) (of : List ℕ) → AreClasses files entry library of
    → (p q : ℕ) → p < length (nodes files entry) → q < length (nodes files entry)
    → AreJoinedNodes files entry library p q ↔ (slice_index of p ≡ slice_index of q)

-- There is one list of classes at most.
abbrev pub OneClasses : Type 0
OneClasses = (files : List SourceFile) (entry : ℕ) (library : Electrical) (a b : List ℕ) → AreClasses files entry library a → AreClasses files entry library b
    → a ≡ b
