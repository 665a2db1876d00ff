use Rattle.std.proofs.Common.{ℕ, sym, ◌∙◌, ◌≡◌, ap}
use Rattle.std.specs.Option.{option_and_then}
use Rattle.ato_files.specs.Blocks.{own}
use Rattle.ato_files.specs.Meant.{joined}
use Rattle.ato_files.proofs.OwnLemmas.{own_found}
use Rattle.ato_files.proofs.own_names.OwnNames.target.Goals.{After-get}
use Rattle.ato_files.proofs.own_names.OwnNames.target.Goals as goal

target_is : (c : After-get) → joined c.get.result ≡ own c.args.self.now.files.now c.in_ok-source.source c.args.import.0.name.0
target_is c = ap joined (c.get.ensures ∙ c.requires.own c.in_ok-source.source c.args.import.0.name.0) ∙ own_found c.args.self.now.files.now c.in_ok-source.source c.args.import.0.name.0

pub returns-in-Some : goal.returns-in-Some
returns-in-Some c = ap joined (sym c.in-Some.is) ∙ target_is (goal.at.returns-in-Some c).After-get
    ∙ ap (option_and_then (λ (from : ℕ). own c.args.self.now.files.now from c.args.import.0.name.0)) c.in_ok-source.ensures

pub returns-in-None : goal.returns-in-None
returns-in-None c = ap joined (sym c.in-None.is) ∙ target_is (goal.at.returns-in-None c).After-get
    ∙ ap (option_and_then (λ (from : ℕ). own c.args.self.now.files.now from c.args.import.0.name.0)) c.in_ok-source.ensures
