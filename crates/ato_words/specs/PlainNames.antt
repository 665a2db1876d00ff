use Rattle.std.specs.Prelude.{ℕ, Bool, ◌&&◌, ◌||◌, not, ◌==◌, List, [], ◌++◌, codes}
use Rattle.std.specs.List.{list_all, slice_split}
use Rattle.std.specs.Str.{bytes_eq}

-- a part of a name between slashes: not empty, and neither `.` nor `..`
abbrev pub is_segment : List ℕ → Bool
is_segment text = not (bytes_eq text []) && not (bytes_eq text (codes ".")) && not (bytes_eq text (codes ".."))

-- neither a backslash nor NUL
abbrev pub is_path_byte : ℕ → Bool
is_path_byte b = not (b == 92) && not (b == 0)

-- A plain name: no backslash and no NUL, and each part between slashes is a segment.
abbrev pub is_plain : List ℕ → Bool
is_plain name = list_all is_path_byte name && list_all is_segment (slice_split (λ b. b == 47) name)

-- The name is one of the files that a build for `out` may put: its netlist, its parts list, its certificate.
abbrev pub is_put : List ℕ → List ℕ → Bool
is_put out name = bytes_eq name (out ++ codes ".net") || bytes_eq name (out ++ codes ".csv") || bytes_eq name (out ++ codes ".cert")
