use Rattle.std.specs.Prelude.{◌≡◌, ℕ, List, take, Option, Some, None, Result, Ok, Err, refl}
use Rattle.std.specs.FinMap.{insert}
use Rattle.std.specs.Coded.{Coded, code_by, coded×, coded_list, coded_ℕ}
use Rattle.ato_outside.specs.Files.{Files, files_code}
use Rattle.ato_outside.specs.Causes.{next_count}
use Rattle.ato_outside.specs.Numbered.{kept_bytes}
use Rattle.ato_outside.specs.declared.tray.TrayError.{TrayError}
use Rattle.ato_outside.specs.declared.tray.TrayError.TheVariants.{Failed, NoMemory}

-- A tray in memory: the files put, the numbers of the calls that fail each with the bytes that it
-- keeps, the calls so far, and how many of them failed.
pub record MemoryTray : Type 0 where
  pub files : Files
  pub fail : List (ℕ × ℕ)
  pub calls : ℕ
  pub faults : ℕ

-- a tray in memory is stored as the tuple of its parts
abbrev pub tray_code : Coded MemoryTray
tray_code =
    code_by (Files × (List (ℕ × ℕ) × (ℕ × ℕ))) (coded× files_code (coded× (coded_list (coded× coded_ℕ coded_ℕ)) (coded× coded_ℕ coded_ℕ)))
    (λ t. (t.files, (t.fail, (t.calls, t.faults))))
    (λ p. record { files = p.0; fail = p.1.0; calls = p.1.1.0; faults = p.1.1.1 })
    (λ _. refl)

-- how many bytes the next put keeps, where it is to fail
abbrev pub next_kept : MemoryTray → Option ℕ
next_kept tray = kept_bytes tray.fail (next_count tray.calls)

-- a tray in memory after one more call
abbrev pub called : MemoryTray → MemoryTray
called tray = record tray { calls = next_count tray.calls }

-- What a put makes of a tray in memory, by how many bytes it keeps where it is to fail.
abbrev pub PutsByNumber : Option ℕ → MemoryTray → MemoryTray → List ℕ → List ℕ → Result (Unit {0}) TrayError → Type 0
PutsByNumber None old new name bytes (Ok u) = new ≡ record (called old) { files = insert old.files name bytes }
PutsByNumber None old new name bytes (Err Failed) = ⊥
PutsByNumber None old new name bytes (Err NoMemory) = new ≡ called old
PutsByNumber (Some kept) old new name bytes (Ok u) = ⊥
PutsByNumber (Some kept) old new name bytes (Err Failed) = new ≡ record (called old) { files = insert old.files name (take kept bytes); faults = next_count old.faults }
PutsByNumber (Some kept) old new name bytes (Err NoMemory) = new ≡ called old
