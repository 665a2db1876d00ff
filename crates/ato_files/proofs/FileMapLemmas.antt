-- Numbers of files.
use Rattle.std.proofs.Common.{◌≡◌, ◌<◌, ℕ, suc, ◌+◌, false, cond, List, [], ◌∷◌, ◌++◌, Option, Some, None, refl, sym, ap, ◌∙◌, length, take, drop, get_or, true≢false, arith}
use Rattle.std.specs.Prelude.{position, is_some, if◌then◌else◌}
use Rattle.std.specs.Str.{bytes_eq}
use Rattle.std.specs.Option.{option_or, option_map}
use Rattle.std.proofs.lemmas.List.{take_more, length-take-le, take-append-drop}
use Rattle.ato_files.specs.declared.program.SourceFile.{SourceFile}
use Rattle.ato_ast.specs.declared.names.Quoted.{Quoted}
use Rattle.ato_files.specs.Lists.{text_at}
use Rattle.ato_files.specs.Blocks.{import_file}
use Rattle.ato_files.specs.FileMaps.{number_behind}
use Rattle.ato_files.proofs.PositionLemmas.{position_push, position_stays, map_or, map_cond}

pub is_none_of : {X : Type 0} (o : Option X) → is_some o ≡ false → o ≡ None
is_none_of None h = refl
is_none_of (Some x) h = absurd (true≢false h)

behind_push : (library : SourceFile) (files : List SourceFile) (file : SourceFile) (text : List ℕ)
    → number_behind (library ∷ files ++ file ∷ []) text ≡ option_or (number_behind (library ∷ files) text) (if bytes_eq text file.name then Some (suc (length files)) else None)
behind_push library files file text =
    ap (option_map suc) (position_push (λ (f : SourceFile). bytes_eq text f.name) files file)
    ∙ map_or suc (position (λ (f : SourceFile). bytes_eq text f.name) files) (cond (bytes_eq text file.name) (Some (length files)) None)
    ∙ ap (option_or (number_behind (library ∷ files) text)) (map_cond suc (bytes_eq text file.name) (length files))

behind_some : (files : List SourceFile) (file : SourceFile) (text : List ℕ) (n : ℕ) → length files ≡ n → 0 < n
    → number_behind (files ++ file ∷ []) text ≡ option_or (number_behind files text) (if bytes_eq text file.name then Some n else None)
behind_some [] file text n e h = absurd (omega arith)
behind_some (library ∷ files) file text n e h = behind_push library files file text ∙ ap (λ (m : ℕ). option_or (number_behind (library ∷ files) text) (if bytes_eq text file.name then Some m else None)) e

behind_none : (files : List SourceFile) (file : SourceFile) (text : List ℕ) → length files ≡ 0 → number_behind (files ++ file ∷ []) text ≡ number_behind files text
behind_none [] file text e = refl
behind_none (library ∷ files) file text e = absurd (omega arith)

module _ (files : List SourceFile) (i : ℕ) (file : SourceFile) (h : i < length files) (read : file ≡ get_or files i file) where
  one_more : take (i + 1) files ≡ take i files ++ file ∷ []
  one_more = take_more files i file h ∙ ap (λ f. take i files ++ f ∷ []) (sym read)

  long : length (take i files) ≡ i
  long = length-take-le i files (omega arith)

  pub behind_more : (text : List ℕ) → 0 < i → number_behind (take (i + 1) files) text ≡ option_or (number_behind (take i files) text) (if bytes_eq text file.name then Some i else None)
  behind_more text some = ap (λ fs. number_behind fs text) one_more ∙ behind_some (take i files) file text i long some

  pub behind_first : (text : List ℕ) → i ≡ 0 → number_behind (take (i + 1) files) text ≡ number_behind (take i files) text
  behind_first text none = ap (λ fs. number_behind fs text) one_more ∙ behind_none (take i files) file text (long ∙ none)

-- a number that was found stays, whatever files follow
pub behind_stays : (files more : List SourceFile) (text : List ℕ) (n : ℕ) → number_behind files text ≡ Some n → number_behind (files ++ more) text ≡ Some n
behind_stays [] more text n e = cc
behind_stays (library ∷ files) more text n e = by (position (λ (f : SourceFile). bytes_eq text f.name) files) refl e
  where
    by : (o : Option ℕ) → position (λ (f : SourceFile). bytes_eq text f.name) files ≡ o → option_map suc o ≡ Some n → option_map suc (position (λ (f : SourceFile). bytes_eq text f.name) (files ++ more)) ≡ Some n
    by None p h = cc
    by (Some i) p h = ap (option_map suc) (position_stays (λ (f : SourceFile). bytes_eq text f.name) files more i p) ∙ h

pub behind_found : (files : List SourceFile) (i : ℕ) (text : List ℕ) (n : ℕ) → number_behind (take i files) text ≡ Some n → number_behind files text ≡ Some n
behind_found files i text n e = ap (λ fs. number_behind fs text) (sym (take-append-drop i files)) ∙ behind_stays (take i files) (drop i files) text n e

-- an import with a string takes from the file of that name
pub source_behind : (files : List SourceFile) (file : SourceFile) (text : Quoted) → number_behind files (text_at file.bytes text.contents) ≡ import_file files file (Some text)
source_behind [] file text = refl
source_behind (library ∷ files) file text = refl
