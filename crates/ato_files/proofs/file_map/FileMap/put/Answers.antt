use Rattle.std.proofs.Common.{ℕ, Bor, List, [], ◌∷◌, sym, ◌∙◌, ap}
use Rattle.std.specs.Str.{bytes_eq}
use Rattle.std.specs.Map.{lookup}
use Rattle.indexmap.proofs.CallerLemmas.{insert_entry-new}
use Rattle.ato_files.proofs.NameMapLemmas.{lookup-append}
use Rattle.ato_files.proofs.FileMapLemmas.{is_none_of}
use Rattle.ato_files.proofs.file_map.FileMap.put.Goals as goal

pub returns : goal.returns
returns c = λ text.
    ap (lookup (λ (key : Bor (List ℕ)). bytes_eq text key.now))
    (c.in_ok-insert.ensures.entries ∙ insert_entry-new (λ (x y : Bor (List ℕ)). bytes_eq x.now y.now) c.args.self.now.numbers c.args.name c.args.number (is_none_of _ (sym c.if-contains_key.ensures)))
    ∙ lookup-append (λ (key : Bor (List ℕ)). bytes_eq text key.now) c.args.self.now.numbers.entries ((c.args.name, c.args.number) ∷ [])
