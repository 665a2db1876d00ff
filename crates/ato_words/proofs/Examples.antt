-- Worked examples of words and of plain names.
use Rattle.std.proofs.Common.{◌≡◌, ℕ, true, false, ◌&&◌, List, [], ◌∷◌, refl, ap}
use Rattle.std.specs.Prelude.{codes, Option, None}
use Rattle.ato_base.specs.Names.{is_name}
use Rattle.ato_words.specs.PlainNames.{is_plain, is_put}
use Rattle.ato_words.specs.Words.{AreTold, no_words, positional, value_apart, value_joined, all_positional, values_of, IsBuild, IsCheck}
use Rattle.ato_words.specs.WordLines.{line_of, is_read}
use Rattle.ato_words.proofs.WordLineLaws.{told_read}
use Rattle.ato_words.specs.declared.words.Build.{Build}
use Rattle.ato_words.specs.declared.words.Check.{Check}

abbrev main_build : Build
main_build = record { file = codes "main.ato"; block = codes "T"; catalogue = codes "parts.csv"; out = codes "out"; steps = 20000 }

abbrev main_check : Check
main_check = record { file = codes "main.ato"; block = codes "T"; catalogue = codes "parts.csv"; cert = codes "out.cert" }

-- A name in a folder is plain.
pub in_folder : is_plain (codes "a/b.ato") ≡ true
in_folder = refl

-- The empty name is not plain.
pub empty_name : is_plain (codes "") ≡ false
empty_name = refl

-- Nor is one with nothing between two slashes.
pub two_slashes : is_plain (codes "a//b") ≡ false
two_slashes = refl

-- Nor is one that leads out of its folder.
pub folder_above : is_plain (codes "../x") ≡ false
folder_above = refl

-- Nor is one with a backslash.
pub backslash : is_plain (codes "a\\b") ≡ false
backslash = refl

-- Nor is one that begins with the same folder.
pub same_folder : is_plain (codes "./a") ≡ false
same_folder = refl

-- Nor is one that ends in a slash.
pub last_slash : is_plain (codes "a/") ≡ false
last_slash = refl

-- A build for `out` may put its netlist.
pub own_netlist : is_put (codes "out") (codes "out.net") ≡ true
own_netlist = refl

-- It does not put a file whose name only begins so.
pub longer_name : is_put (codes "out") (codes "out.nets") ≡ false
longer_name = refl

-- The words of the build of main.ato, since T is a name.
pub main_words : is_name (codes "T") ≡ true → IsBuild (codes "build" ∷ codes "main.ato:T" ∷ codes "parts.csv" ∷ []) main_build
main_words named = record {
  positional = codes "build" ∷ codes "main.ato:T" ∷ codes "parts.csv" ∷ [];
  out = None;
  told = positional refl (positional refl (positional refl no_words));
  of = record { words_are = refl; entry = ap (λ name. true && name && true) named; apart = refl; out_is = refl; steps = refl };
}

-- The words of the check of a certificate, which may have the name that a build puts.
pub check_words : is_name (codes "T") ≡ true → IsCheck (codes "check" ∷ codes "main.ato:T" ∷ codes "parts.csv" ∷ codes "out.cert" ∷ []) main_check
check_words named = record {
  positional = codes "check" ∷ codes "main.ato:T" ∷ codes "parts.csv" ∷ codes "out.cert" ∷ [];
  told = positional refl (positional refl (positional refl (positional refl no_words)));
  of = record { words_are = refl; entry = ap (λ name. true && name && true) named; catalogue = refl; cert = refl };
}

-- An option may stand between positional words, and a word after `--` is positional.
pub out_between : AreTold (codes "build" ∷ codes "--out" ∷ codes "b" ∷ codes "--" ∷ codes "x" ∷ []) (codes "build" ∷ codes "x" ∷ []) (codes "b" ∷ [])
out_between = positional refl (value_apart refl (all_positional refl))

-- The value may stand behind the sign.
pub out_joined : AreTold (codes "--out=b/c" ∷ []) [] (codes "b/c" ∷ [])
out_joined = value_joined refl no_words

-- what is not read is not told, with one value at most
no_telling : (words : List (List ℕ)) → is_read (line_of words).turn ≡ false → (ps : List (List ℕ)) (out : Option (List ℕ)) → AreTold words ps (values_of out) → ⊥
no_telling words h ps out told = let yes = (told_read words ps out told).read in cc

-- A value that is not there, one that begins with a dash, a second one, another option and a dash after `--` are refused.
pub no_value : (ps : List (List ℕ)) (out : Option (List ℕ)) → AreTold (codes "x" ∷ codes "--out" ∷ []) ps (values_of out) → ⊥
no_value = no_telling (codes "x" ∷ codes "--out" ∷ []) refl

pub dash_value : (ps : List (List ℕ)) (out : Option (List ℕ)) → AreTold (codes "--out" ∷ codes "--" ∷ []) ps (values_of out) → ⊥
dash_value = no_telling (codes "--out" ∷ codes "--" ∷ []) refl

pub second_value : (ps : List (List ℕ)) (out : Option (List ℕ)) → AreTold (codes "--out=a" ∷ codes "--out=a" ∷ []) ps (values_of out) → ⊥
second_value = no_telling (codes "--out=a" ∷ codes "--out=a" ∷ []) refl

pub other_option : (ps : List (List ℕ)) (out : Option (List ℕ)) → AreTold (codes "--outer=a" ∷ []) ps (values_of out) → ⊥
other_option = no_telling (codes "--outer=a" ∷ []) refl

pub late_dash : (ps : List (List ℕ)) (out : Option (List ℕ)) → AreTold (codes "--" ∷ codes "--" ∷ []) ps (values_of out) → ⊥
late_dash = no_telling (codes "--" ∷ codes "--" ∷ []) refl
