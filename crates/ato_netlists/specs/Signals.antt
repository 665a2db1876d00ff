-- The signals that name nets, by the numbers of their nodes. Only private functions have clauses in these words.
use Rattle.std.specs.Prelude.{◌≡◌, ℕ, suc, ◌+◌, ◌<◌, Bool, true, false, ◌&&◌, ◌==◌, nat_lt, List, [], ◌∷◌, ◌++◌, length, fold, Option, Some, None, slice_get, unwrap_or, if◌then◌else◌}
use Rattle.std.specs.List.{slice_index, slice_index_or}
use Rattle.std.specs.Option.{option_map}
use Rattle.ato_instance_tree.specs.declared.tree.Node.{Node}
use Rattle.ato_instance_tree.specs.declared.tree.NodeKind.{NodeKind}
use Rattle.ato_instance_tree.specs.declared.tree.NodeKind.TheVariants as node

-- how many names stand between a node and the root, by those of the nodes before it
abbrev pub depth_below : List ℕ → Option ℕ → ℕ
depth_below depths None = 0
depth_below depths (Some parent) = unwrap_or (option_map (λ depth. depth + 1) (slice_get depths parent)) 0

abbrev pub with_depth : List ℕ → Node → List ℕ
with_depth depths n = depths ++ depth_below depths n.parent ∷ []

-- the same for nodes, by their numbers
abbrev pub depths_of : List Node → List ℕ
depths_of ns = fold with_depth [] ns

abbrev pub is_signal : NodeKind → Bool
is_signal node.Signal = true
is_signal _ = false

-- the one of two signals with fewer names, the first where they have as many
abbrev pub shallower_of : List ℕ → Option ℕ → ℕ → Option ℕ
shallower_of depths None other = Some other
shallower_of depths (Some signal) other = if nat_lt (slice_index depths other) (slice_index depths signal) then Some other else Some signal

-- the signal of a class with the fewest names, of one before and those of nodes that are counted from a number on
abbrev pub signal_from : List ℕ → List ℕ → ℕ → ℕ → Option ℕ → List Node → Option ℕ
signal_from depths of class n best [] = best
signal_from depths of class n best (x ∷ more) =
    signal_from depths of class (suc n) (if is_signal x.kind && (class == slice_index of n) then shallower_of depths best n else best) more

-- Each class has its signal with the fewest names.
pub record AreSignals (ns : List Node) (of : List ℕ) (signals : List (Option ℕ)) : Type 0 where
  pub size : length signals ≡ length ns
  pub within : (class signal : ℕ) → class < length ns → slice_index_or signals class None ≡ Some signal → signal < length ns
  pub each : (class : ℕ) → class < length ns → slice_index_or signals class None ≡ signal_from (depths_of ns) of class 0 None ns
