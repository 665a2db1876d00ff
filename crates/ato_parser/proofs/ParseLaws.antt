-- What an answer is that is a tree or a fault of the tokens, and nothing else.
use Rattle.std.proofs.Common.{◌≡◌, ◌≢◌, ℕ, ◌+◌, ◌<◌, ◌≤◌, arith, ◌∷◌, ◌++◌, length, Result, Ok, Err, IfOk, IfErr, sym, ap, ◌∙◌, subst, map}
use Rattle.std.proofs.lemmas.List.{length-append}
use Rattle.ato_base.specs.declared.tokens.Token.{Token}
use Rattle.ato_base.specs.declared.faults.Fault.{Fault}
use Rattle.ato_base.specs.declared.faults.FaultKind.{FaultKind}
use Rattle.ato_base.specs.declared.faults.FaultKind.TheVariants as faults
use Rattle.ato_base.specs.declared.faults.Refusal.{Refusal}
use Rattle.ato_base.specs.declared.faults.Refusal.TheVariants as refusals
use Rattle.ato_ast.specs.FileKinds.{file_kinds}
use Rattle.ato_ast.specs.declared.blocks.File.{File}
use Rattle.ato_parser.specs.declared.stop.Stop.{Stop}
use Rattle.ato_parser.specs.declared.stop.Stop.TheVariants as stops
use Rattle.ato_parser.specs.Tokens.{Tokens, EndsOnce}
use Rattle.ato_parser.specs.Files.{IsFile, FileFront}
use Rattle.ato_parser.specs.Faults.{deepest, IsSyntax, IsTooDeep, IsFault, a_syntax, a_depth, fault_at, IsTree, IsRefused, Answers}
use Rattle.ato_parser.specs.FileReading.{Gives, whole}
use Rattle.ato_parser.proofs.NaturalFiles.{file_natural}
use Rattle.ato_parser.proofs.KindsOfFiles.{file_kinds_of}
use Rattle.ato_parser.proofs.WholeLaws.{whole_tree}
use Rattle.ato_parser.proofs.FaultLaws.{BadToken, syntax_stop, deep_stop, one_tree, one_fault, never_both}

-- where the answer is right, a tree is given
pub tree_given : (ts : Tokens) (r : Result File Refusal) → IfOk r (IsTree ts) → IfErr r (IsRefused ts) → (f : File) → IsTree ts f → Answers (Ok f) r
tree_given ts (Ok g) found refused f d = ap Ok (one_tree ts g f found d)
tree_given ts (Err refusals.NoMemory) found refused f d = tt
tree_given ts (Err (refusals.Fault g)) found refused f d = absurd (never_both ts f g d refused)

-- and a fault
pub fault_given : (ts : Tokens) (r : Result File Refusal) → IfOk r (IsTree ts) → IfErr r (IsRefused ts) → (f : Fault) → IsFault ts f → Answers (Err (refusals.Fault f)) r
fault_given ts (Ok g) found refused f d = absurd (never_both ts g f found d)
fault_given ts (Err refusals.NoMemory) found refused f d = tt
fault_given ts (Err (refusals.Fault g)) found refused f d = ap (λ h. Err (refusals.Fault h)) (one_fault ts g f refused d)

-- a tree is written out as its tokens
pub kinds_given : (ts : Tokens) (r : Result File Refusal) → IfOk r (IsTree ts) → IfOk r (λ f. file_kinds f ≡ map (λ (t : Token). t.kind) ts)
kinds_given ts (Ok f) found = file_kinds_of _ f ts found
kinds_given ts (Err e) found = tt

-- each front goes on to a file
pub front_goes_on : (depth : ℕ) (ts : Tokens) → FileFront depth ts → (f : File) × (us : Tokens) × IsFile depth f (ts ++ us)
unfolding FileFront IsFile
front_goes_on depth ts fits = let c = (file_natural depth).goes_on ts fits in (c.value, c.rest, c.spells)

-- ---- from what is read to the answer

pub given_tree : (ts : Tokens) → EndsOnce ts → (f : File) → Gives (whole deepest ts) (Ok f) → IsTree ts f
given_tree ts ends f h = whole_tree deepest f ts ends h

syntax_differs : (k : ℕ) → stops.Syntax k ≢ stops.NoMemory
syntax_differs k e = cc

deep_differs : (k : ℕ) → stops.TooDeep k ≢ stops.NoMemory
deep_differs k e = cc

pub bad_syntax : (ts : Tokens) (k : ℕ) (e : Stop) → e ≡ stops.Syntax k → EndsOnce ts → Gives (whole deepest ts) (Err e) → BadToken (IsSyntax ts) ts k
bad_syntax ts k e is ends h = syntax_stop ts k ends (subst (λ d. Gives (whole deepest ts) (Err d)) is h (syntax_differs k))

pub bad_depth : (ts : Tokens) (k : ℕ) (e : Stop) → e ≡ stops.TooDeep k → EndsOnce ts → Gives (whole deepest ts) (Err e) → BadToken (IsTooDeep ts) ts k
bad_depth ts k e is ends h = deep_stop ts k ends (subst (λ d. Gives (whole deepest ts) (Err d)) is h (deep_differs k))

pub some_left : {Is : Token → Type 0} (ts : Tokens) (k : ℕ) → BadToken Is ts k → 0 < k
some_left ts k b = let left = b.left in omega arith

pub is_there : {Is : Token → Type 0} (ts : Tokens) (k : ℕ) → BadToken Is ts k → k ≤ length ts
is_there ts k b =
    let left = b.left in
    let whole : length ts ≡ length b.front + length (b.bad ∷ b.rest) = ap length b.split ∙ length-append b.front (b.bad ∷ b.rest) in
    omega arith

-- what the refusal at a token is
abbrev pub Refuses : FaultKind → Tokens → ℕ → Refusal → Type 0
Refuses kind ts k r = (front rest : Tokens) (bad : Token) → ts ≡ front ++ bad ∷ rest → k ≡ length (bad ∷ rest) → r ≡ refusals.Fault (fault_at kind bad)

pub refused_syntax : (ts : Tokens) (k : ℕ) (r : Refusal) → BadToken (IsSyntax ts) ts k → Refuses faults.Syntax ts k r → IsRefused ts r
refused_syntax ts k r b h = subst (IsRefused ts) (sym (h b.front b.rest b.bad b.split b.left)) (a_syntax b.is)

pub refused_depth : (ts : Tokens) (k : ℕ) (r : Refusal) → BadToken (IsTooDeep ts) ts k → Refuses faults.TooDeep ts k r → IsRefused ts r
refused_depth ts k r b h = subst (IsRefused ts) (sym (h b.front b.rest b.bad b.split b.left)) (a_depth b.is)
