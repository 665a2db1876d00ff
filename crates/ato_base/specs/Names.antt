use Rattle.std.specs.Prelude.{ℕ, Bool, true, false, ◌&&◌, ◌||◌, not, ◌==◌, List, [], ◌∷◌}
use Rattle.std.specs.List.{list_all}
use Rattle.std.specs.Str.{chars}
use Rattle.unicode_ident.specs.Ident.{is_xid_start, is_xid_continue}
use Rattle.ato_base.specs.Keywords.{is_keyword}

-- A name may begin with the character: `_`, or one that Unicode's XID rule lets start an identifier.
abbrev pub starts_name : ℕ → Bool
starts_name c = is_xid_start c || (c == 95)

-- a first character, and then characters that the XID rule lets continue an identifier
abbrev pub are_name_chars : List ℕ → Bool
are_name_chars [] = false
are_name_chars (c ∷ cs) = starts_name c && list_all is_xid_continue cs

-- The text is a name of the language: its characters are those of a name, and it is no keyword.
abbrev pub is_name : List ℕ → Bool
is_name text = are_name_chars (chars text) && not (is_keyword text)
