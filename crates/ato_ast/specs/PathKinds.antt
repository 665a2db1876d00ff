-- Names, numbers, strings, labels, points and paths, written out as the kinds of tokens.
use Rattle.std.specs.Prelude.{List, [], ◌∷◌, ◌++◌, Option, Some, None}
use Rattle.std.specs.List.{flat_map}
use Rattle.ato_base.specs.declared.keywords.Keyword.TheVariants as keyword
use Rattle.ato_base.specs.declared.keywords.Mark.{Mark}
use Rattle.ato_base.specs.declared.keywords.Mark.TheVariants as mark
use Rattle.ato_base.specs.declared.tokens.TokenKind.{TokenKind}
use Rattle.ato_base.specs.declared.tokens.TokenKind.TheVariants as kinds
use Rattle.ato_ast.specs.declared.names.Named.{Named}
use Rattle.ato_ast.specs.declared.names.Number.{Number}
use Rattle.ato_ast.specs.declared.names.Quoted.{Quoted}
use Rattle.ato_ast.specs.declared.paths.Label.{Label}
use Rattle.ato_ast.specs.declared.paths.Label.TheVariants as label
use Rattle.ato_ast.specs.declared.paths.Point.{Point}
use Rattle.ato_ast.specs.declared.paths.Point.TheVariants as point
use Rattle.ato_ast.specs.declared.paths.Path.{Path}

abbrev pub Kinds : Type 0
Kinds = List TokenKind

-- things written out one after another, each with a mark before it
abbrev pub marked : {X : Type 0} → Mark → (X → Kinds) → List X → Kinds
marked before f xs = flat_map (λ x. kinds.Mark before ∷ f x) xs

-- things written out one after another, with a mark between
abbrev pub joined : {X : Type 0} → Mark → (X → Kinds) → List X → Kinds
joined between f [] = []
joined between f (x ∷ more) = f x ++ marked between f more

abbrev pub named_kind : Named → TokenKind
named_kind n = kinds.Name n.name

abbrev pub number_kind : Number → TokenKind
number_kind n = kinds.Number n.whole n.small n.at

-- a string is what stands between its quotes
abbrev pub quoted_kind : Quoted → TokenKind
quoted_kind s = kinds.Str s.contents

-- label = NAME | INTEGER | STRING
abbrev pub label_kind : Label → TokenKind
label_kind (label.Name n) = named_kind n
label_kind (label.Number n at) = number_kind n
label_kind (label.Text s) = quoted_kind s

-- point = "signal" NAME | "pin" label
abbrev pub point_kinds : Point → Kinds
point_kinds (point.Signal n at) = kinds.Keyword keyword.Signal ∷ named_kind n ∷ []
point_kinds (point.Pin l at) = kinds.Keyword keyword.Pin ∷ label_kind l ∷ []

-- names with a mark between
abbrev pub names_kinds : Mark → List Named → Kinds
names_kinds between names = joined between (λ n. named_kind n ∷ []) names

-- the number of a pin, behind a point
abbrev pub pin_kinds : Option TokenKind → Kinds
pin_kinds None = []
pin_kinds (Some k) = kinds.Mark mark.Dot ∷ k ∷ []

-- path = NAME { "." NAME } [ "." INTEGER ]
unfoldable pub path_kinds : Path → Kinds
path_kinds p = names_kinds mark.Dot p.steps ++ pin_kinds p.pin
