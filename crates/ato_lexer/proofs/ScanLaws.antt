-- How a scan goes on from piece to piece, and how it ends.
use Rattle.std.proofs.Common.{◌≡◌, ℕ, ◌+◌, List, [], ◌∷◌, ◌++◌, length, refl, sym, ap, ◌∙◌, subst, append_assoc, arith}
use Rattle.std.specs.Prelude.{true, false, Some, None, if◌then◌else◌}
use Rattle.std.specs.Str.{chars}
use Rattle.std.proofs.lemmas.Str.{chars-nil}
use Rattle.ato_base.specs.declared.faults.Refusal.{Refusal}
use Rattle.ato_base.specs.declared.faults.Refusal.TheVariants as refusals
use Rattle.ato_base.specs.declared.faults.FaultKind.{FaultKind}
use Rattle.ato_base.specs.declared.places.FileId.{FileId}
use Rattle.ato_base.specs.declared.tokens.Token.{Token}
use Rattle.ato_lexer.specs.Layout.{Item, last_items, fault}
use Rattle.ato_lexer.specs.Lines.{Placed, placed}
use Rattle.ato_lexer.specs.Pieces.{Kind, is_bad, pieces_within, pieces_of, blank, comment, line_end, name, keyword, number, string, mark, bad_char, open_string}
use Rattle.ato_lexer.specs.Puts.{Puts, StopsAt, placed_as, IsFirst}
use Rattle.ato_lexer.specs.Scans.{scanned, IsScanned}
use Rattle.ato_lexer.specs.Shapes.{kind_of_shape}
use Rattle.ato_lexer.specs.Tokens.{bad_kind, bad_item, fault_at, first_of}
use Rattle.ato_lexer.specs.Walks.{put, standing_after, levels_after, closing, scan, HasRoom}
use Rattle.ato_lexer.specs.declared.pieces.Shape.{Shape}
use Rattle.ato_lexer.specs.declared.scanning.Standing.{Standing}
use Rattle.ato_lexer.specs.declared.scanning.Standing.TheVariants.{Between, Within}
use Rattle.ato_lexer.proofs.PutLaws.{puts_none, puts_more, stops_front, stops_past}

-- ---- one piece of a scan

scan_good : (size : ℕ) (levels : List ℕ) (standing : Standing) (p : Placed) (ps : List Placed) → is_bad p.piece.kind ≡ false
    → scan size levels standing (p ∷ ps) ≡ put levels standing p ++ scan size (levels_after levels standing p) (standing_after standing p) ps
unfolding scan
scan_good size levels standing p ps h =
    ap (λ b. if b then closing standing ++ bad_item p (bad_kind p.piece.kind)
    else put levels standing p ++ scan size (levels_after levels standing p) (standing_after standing p) ps) h

scan_bad : (size : ℕ) (levels : List ℕ) (standing : Standing) (p : Placed) (ps : List Placed) → is_bad p.piece.kind ≡ true
    → scan size levels standing (p ∷ ps) ≡ closing standing ++ bad_item p (bad_kind p.piece.kind)
unfolding scan
scan_bad size levels standing p ps h =
    ap (λ b. if b then closing standing ++ bad_item p (bad_kind p.piece.kind)
    else put levels standing p ++ scan size (levels_after levels standing p) (standing_after standing p) ps) h

scan_over : (size : ℕ) (levels : List ℕ) (standing : Standing) → scan size levels standing [] ≡ closing standing ++ last_items levels size []
unfolding scan
scan_over size levels standing = refl

-- ---- pieces of code

-- the pieces of a text, the first with its place in code
placed_first : (text front rest : List ℕ) (shape : Shape) (at stop : ℕ) → IsFirst text shape front rest → stop ≡ at + length front
    → placed at (pieces_of (chars text)) ≡ placed_as shape front at stop ∷ placed stop (pieces_of (chars rest))
placed_first text front rest shape at stop h is =
    let size = ap (λ n. at + n) h.size ∙ sym is in
    ap (placed at) h.pieces
    ∙ (λ i. record { piece = record { kind = kind_of_shape shape; text = chars front }; start = at; end = size i } ∷ placed (size i) (pieces_of (chars rest)))

good_kind : (k : Kind) → bad_kind k ≡ None → is_bad k ≡ false
good_kind blank h = refl
good_kind comment h = refl
good_kind line_end h = refl
good_kind name h = refl
good_kind (keyword k) h = refl
good_kind number h = refl
good_kind (string quotes) h = refl
good_kind (mark m) h = refl
good_kind bad_char h = let bad : ⊥ = cc in absurd bad
good_kind open_string h = let bad : ⊥ = cc in absurd bad

pub good_piece : (k : Kind) → bad_kind k ≡ None → is_bad k ≡ false
good_piece = good_kind

a_fault : (k : Kind) (f : FaultKind) → bad_kind k ≡ Some f → is_bad k ≡ true
a_fault blank f h = let bad : ⊥ = cc in absurd bad
a_fault comment f h = let bad : ⊥ = cc in absurd bad
a_fault line_end f h = let bad : ⊥ = cc in absurd bad
a_fault name f h = let bad : ⊥ = cc in absurd bad
a_fault (keyword k) f h = let bad : ⊥ = cc in absurd bad
a_fault number f h = let bad : ⊥ = cc in absurd bad
a_fault (string quotes) f h = let bad : ⊥ = cc in absurd bad
a_fault (mark m) f h = let bad : ⊥ = cc in absurd bad
a_fault bad_char f h = refl
a_fault open_string f h = refl

closing_sound : (file : FileId) (standing : Standing) → first_of file (closing standing) ≡ None
closing_sound file (Between column) = refl
closing_sound file (Within brackets last) = refl

-- ---- how far a scan has come

pub scan_begins : (file : FileId) (start : ℕ) (text : List ℕ) (names : List (List ℕ)) (tokens : List Token) (levels : List ℕ) → tokens ≡ [] → levels ≡ [] → IsScanned file start text names names tokens levels (Between 0) start text
scan_begins file start text names tokens levels none no_levels = record {
  done = [];
  puts = subst (λ l. Puts file names names [] l []) (sym none) (puts_none file names []);
  split = ap (λ l. scan (start + length text) l (Between 0) (placed start (pieces_of (chars text)))) (sym no_levels);
  bytes = refl;
  room = omega arith;
}

module _ (file : FileId) (start : ℕ) (text : List ℕ) (old new : List (List ℕ)) (tokens : List Token) (levels : List ℕ) (standing : Standing) (at : ℕ) (rest : List ℕ) where
  -- what is left is put
  abbrev left_put : List Item
  left_put = scan (start + length text) levels standing (placed at (pieces_of (chars rest)))

  -- it stops at what is left
  stops_left : IsScanned file start text old new tokens levels standing at rest → (r : Refusal) → StopsAt file left_put r → StopsAt file (scanned start text) r
  stops_left h r stops = subst (λ is. StopsAt file is r) (sym h.split) (stops_past file h.done left_put r h.puts.sound stops)

  pub scan_goes : (newer : List (List ℕ)) (more : List Token) (shape : Shape) (front after : List ℕ) (stop : ℕ) (deeper : List ℕ) (next : Standing)
      → IsScanned file start text old new tokens levels standing at rest → IsFirst rest shape front after → stop ≡ at + length front → bad_kind (kind_of_shape shape) ≡ None
      → Puts file new newer tokens more (put levels standing (placed_as shape front at stop)) → deeper ≡ levels_after levels standing (placed_as shape front at stop)
      → next ≡ standing_after standing (placed_as shape front at stop) → HasRoom next stop → IsScanned file start text old newer more deeper next stop after
  scan_goes newer more shape front after stop deeper next h first is good puts deep stands room =
      let size = start + length text in
      let p = placed_as shape front at stop in
      let ps = placed stop (pieces_of (chars after)) in
      record {
        done = h.done ++ put levels standing p;
        puts = puts_more file old new newer [] tokens more h.done (put levels standing p) h.puts puts;
        split = h.split
            ∙ ap (λ l. h.done ++ scan size levels standing l) (placed_first rest front after shape at stop first is)
            ∙ ap (λ l. h.done ++ l) (scan_good size levels standing p ps (good_kind (kind_of_shape shape) good))
            ∙ (λ i. h.done ++ (put levels standing p ++ scan size (sym deep i) (sym stands i) ps))
            ∙ sym (append_assoc h.done (put levels standing p) (scan size deeper next ps));
        bytes = omega (arith, h.bytes, first.bytes, is);
        room = room;
      }

  pub scan_stops : (shape : Shape) (front after : List ℕ) (stop : ℕ) (r : Refusal) → IsScanned file start text old new tokens levels standing at rest → IsFirst rest shape front after
      → stop ≡ at + length front → bad_kind (kind_of_shape shape) ≡ None → StopsAt file (put levels standing (placed_as shape front at stop)) r → StopsAt file (scanned start text) r
  scan_stops shape front after stop r h first is good stops =
      let size = start + length text in
      let p = placed_as shape front at stop in
      let ps = placed stop (pieces_of (chars after)) in
      stops_left h r
      (subst (λ l. StopsAt file (scan size levels standing l) r) (sym (placed_first rest front after shape at stop first is))
      (subst (λ is. StopsAt file is r) (sym (scan_good size levels standing p ps (good_kind (kind_of_shape shape) good)))
      (stops_front file (put levels standing p) (scan size (levels_after levels standing p) (standing_after standing p) ps) r stops)))

  pub scan_fails : (shape : Shape) (front after : List ℕ) (stop : ℕ) (kind : FaultKind) → IsScanned file start text old new tokens levels standing at rest → IsFirst rest shape front after
      → stop ≡ at + length front → bad_kind (kind_of_shape shape) ≡ Some kind → StopsAt file (scanned start text) (refusals.Fault (fault_at file kind at stop))
  scan_fails shape front after stop kind h first is bad =
      let size = start + length text in
      let p = placed_as shape front at stop in
      let ps = placed stop (pieces_of (chars after)) in
      let r = refusals.Fault (fault_at file kind at stop) in
      stops_left h r
      (subst (λ l. StopsAt file (scan size levels standing l) r) (sym (placed_first rest front after shape at stop first is))
      (subst (λ is. StopsAt file is r) (sym (scan_bad size levels standing p ps (a_fault (kind_of_shape shape) kind bad)))
      (subst (λ o. StopsAt file (closing standing ++ bad_item p o) r) (sym bad)
      (stops_past file (closing standing) (fault kind at stop ∷ []) r (closing_sound file standing) refl))))

  pub scan_ends : (more : List Token) → IsScanned file start text old new tokens levels standing at rest → rest ≡ [] → Puts file new new tokens more (closing standing ++ last_items levels at [])
      → Puts file old new [] more (scanned start text)
  unfolding pieces_within
  scan_ends more h none puts =
      let size = start + length text in
      let all : at ≡ size = omega (arith, h.bytes, ap length none) in
      subst (Puts file old new [] more) (sym (h.split ∙ ap (λ l. h.done ++ scan size levels standing (placed at (pieces_of l))) (ap chars none ∙ chars-nil) ∙ ap (λ l. h.done ++ l) (scan_over size levels standing) ∙ ap (λ n. h.done ++ (closing standing ++ last_items levels n [])) (sym all)))
      (puts_more file old new new [] tokens more h.done (closing standing ++ last_items levels at []) h.puts puts)
