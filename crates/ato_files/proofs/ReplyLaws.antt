-- Calls of a shelf one after another, and their replies.
use Rattle.std.proofs.Common.{◌≡◌, ℕ, ◌<◌, List, [], ◌∷◌, ◌++◌, length, drop, sym, ap, subst, ◌∙◌, arith, Result}
use Rattle.std.proofs.lemmas.List.{map-append}
use Rattle.ato_outside.specs.Replies.{Reply, Asks, no_call, one_call}
use Rattle.ato_outside.specs.declared.shelf.Got.{Got}
use Rattle.ato_outside.specs.declared.shelf.ShelfError.{ShelfError}
use Rattle.ato_files.specs.declared.program.SourceFile.{SourceFile}
use Rattle.ato_files.specs.Loading.{most_bytes}
use Rattle.ato_files.specs.Replies.{reply_of, replies_of, ForReplies}

module _ {S : Type 0} (gets : S → List ℕ → ℕ → Result Got ShelfError → List ℕ → S → Type 0) where
  -- more calls
  pub joined : {limit : ℕ} {s t u : S} {xs ys : List Reply} → Asks gets limit s xs t → Asks gets limit t ys u → Asks gets limit s (xs ++ ys) u
  joined no_call more = more
  joined (one_call a rest) more = one_call a (joined rest more)

  pub for_replies : {P Q : List Reply → Type 0} {old new : S} → ForReplies gets old new P → ((replies : List Reply) → P replies → Q replies) → ForReplies gets old new Q
  for_replies r f = record { replies = r.replies; asks = r.asks; is = f r.replies r.is }

  -- no file behind the library is loaded yet
  pub none_asked : (s : S) (files : List SourceFile) (library : SourceFile) → files ≡ library ∷ [] → Asks gets most_bytes s (replies_of (drop 1 files)) s
  none_asked s files library e = subst (λ (fs : List SourceFile). Asks gets most_bytes s (replies_of (drop 1 fs)) s) (sym e) no_call

one_behind : (files : List SourceFile) (file : SourceFile) → 0 < length files → replies_of (drop 1 (files ++ file ∷ [])) ≡ replies_of (drop 1 files) ++ reply_of file ∷ []
one_behind [] file some = absurd (omega arith)
one_behind (library ∷ files) file some = map-append reply_of files (file ∷ [])

-- one more file is loaded
pub grown_replies : (before after : List SourceFile) (file : SourceFile) → 0 < length before → after ≡ before ++ file ∷ [] → replies_of (drop 1 before) ++ reply_of file ∷ [] ≡ replies_of (drop 1 after)
grown_replies before after file some e = sym (ap (λ (fs : List SourceFile). replies_of (drop 1 fs)) e ∙ one_behind before file some)
