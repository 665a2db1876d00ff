-- The words of the command line, and the task that they are.
use Rattle.std.specs.Prelude.{◌≡◌, ℕ, Bool, true, false, ◌&&◌, not, ◌==◌, List, [], ◌∷◌, ◌++◌, codes, map, string_bytes, String, Option, Some, None, unwrap_or}
use Rattle.std.specs.List.{list_any}
use Rattle.std.specs.declared.alloc.Global.{Global}
use Rattle.ato_base.specs.Names.{is_name}
use Rattle.ato_words.specs.PlainNames.{is_plain, is_put}
use Rattle.ato_words.specs.declared.words.Build.{Build}
use Rattle.ato_words.specs.declared.words.Check.{Check}
use Rattle.ato_words.specs.declared.words.Task.{Task}
use Rattle.ato_words.specs.declared.words.Task.TheVariants as tasks

-- the bytes of the words
abbrev pub texts : List (String Global) → List (List ℕ)
texts words = map string_bytes words

abbrev pub begins_with_dash : List ℕ → Bool
begins_with_dash [] = false
begins_with_dash (b ∷ bs) = b == 45

-- ---- the words and their options

-- The words are positional ones, in their order, with options between them, each `--out VALUE` or `--out=VALUE`, whose
-- values stand apart in their order. Behind a word `--` every word is positional. No positional word and no value begins
-- with a dash.
pub data AreTold : List (List ℕ) → List (List ℕ) → List (List ℕ) → Type 0 where
  no_words : AreTold [] [] []
  positional : {w : List ℕ} {ws ps vs : List (List ℕ)} → begins_with_dash w ≡ false → AreTold ws ps vs → AreTold (w ∷ ws) (w ∷ ps) vs
  value_apart : {v : List ℕ} {ws ps vs : List (List ℕ)} → begins_with_dash v ≡ false → AreTold ws ps vs → AreTold (codes "--out" ∷ v ∷ ws) ps (v ∷ vs)
  value_joined : {v : List ℕ} {ws ps vs : List (List ℕ)} → begins_with_dash v ≡ false → AreTold ws ps vs → AreTold ((codes "--out=" ++ v) ∷ ws) ps (v ∷ vs)
  all_positional : {ws : List (List ℕ)} → list_any begins_with_dash ws ≡ false → AreTold (codes "--" ∷ ws) ws []

-- the values of an option that is given at most once
abbrev pub values_of : Option (List ℕ) → List (List ℕ)
values_of None = []
values_of (Some value) = value ∷ []

-- ---- the task

-- The file and the block may be an entry's: a plain name, and a name of the language, which has no colon.
abbrev pub is_entry : List ℕ → List ℕ → Bool
is_entry file block = is_plain file && is_name block && not (list_any (λ b. b == 58) block)

-- What is put is named by a plain name. The entry's file and the catalogue, which is a plain name, are not put by the build.
abbrev pub are_apart : List ℕ → List ℕ → List ℕ → Bool
are_apart out file catalogue = is_plain out && is_plain catalogue && not (is_put out file) && not (is_put out catalogue)

-- The positional words are `build ENTRY CATALOGUE`, and ENTRY is a file, a colon and a block's name, divided at its
-- last colon.
pub record IsBuildOf (positional : List (List ℕ)) (out : List ℕ) (build : Build) : Type 0 where
  pub words_are : positional ≡ codes "build" ∷ (build.file ++ 58 ∷ build.block) ∷ build.catalogue ∷ []
  pub entry : is_entry build.file build.block ≡ true
  pub apart : are_apart build.out build.file build.catalogue ≡ true
  pub out_is : build.out ≡ out
  pub steps : build.steps ≡ 20000

-- what is put where the words do not say
abbrev pub default_out : List ℕ
default_out = codes "out"

-- The words are this build, with the option at most once.
pub record IsBuild (words : List (List ℕ)) (build : Build) : Type 0 where
  pub positional : List (List ℕ)
  pub out : Option (List ℕ)
  pub told : AreTold words positional (values_of out)
  pub of : IsBuildOf positional (unwrap_or out default_out) build

-- The positional words are `check ENTRY CATALOGUE CERT`, with an entry like a build's and two plain names.
pub record IsCheckOf (positional : List (List ℕ)) (check : Check) : Type 0 where
  pub words_are : positional ≡ codes "check" ∷ (check.file ++ 58 ∷ check.block) ∷ check.catalogue ∷ check.cert ∷ []
  pub entry : is_entry check.file check.block ≡ true
  pub catalogue : is_plain check.catalogue ≡ true
  pub cert : is_plain check.cert ≡ true

-- The words are this check, which has no option.
pub record IsCheck (words : List (List ℕ)) (check : Check) : Type 0 where
  pub positional : List (List ℕ)
  pub told : AreTold words positional []
  pub of : IsCheckOf positional check

-- The words are this task.
abbrev pub IsJob : List (List ℕ) → Task → Type 0
IsJob words (tasks.Build build) = IsBuild words build
IsJob words (tasks.Check check) = IsCheck words check

-- No task has these words.
abbrev pub IsNoJob : List (List ℕ) → Type 0
IsNoJob words = (task : Task) → IsJob words task → ⊥
