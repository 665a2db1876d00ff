use Rattle.std.proofs.Common.{refl}
use Rattle.ato_first.specs.Statements.{read_point, read_end, read_assertion}
use Rattle.ato_first.specs.declared.first_form.Line.TheVariants as forms
use Rattle.ato_first.proofs.FoundLemmas.{second_kind, second_attribute, second_assertion, with_kind, with_attribute, with_assertion, with_other}
use Rattle.ato_first.proofs.fronts.Found.and.Goals as goal

pub returns-in-Kind : goal.returns-in-Kind
returns-in-Kind c = rw c.in-Kind.is (λ place lines once found at again. second_kind c.args.self place lines c.in-Kind.field-0.now c.if-self.true found again)

pub returns-in-Kind-2 : goal.returns-in-Kind-2
returns-in-Kind-2 c = rw c.in-Kind-2.is (λ place lines once found at. with_kind c.args.self place lines c.in-Kind-2.field-0.now c.if-self.false once found)

pub returns-in-Some : goal.returns-in-Some
returns-in-Some c = rw c.in-Attribute.is (λ place lines once found at again. second_attribute c.args.self place lines c.in-Attribute.name.now c.in-Some.field-0 c.in-Some.is found again)

pub returns-in-None : goal.returns-in-None
returns-in-None c =
    rw c.in-Attribute.is (λ place lines once found at. with_attribute c.args.self place lines (record { name = c.in-Attribute.name; at = c.args.at }) c.in-None.is once found at)

pub returns-in-Assertion : goal.returns-in-Assertion
returns-in-Assertion c = rw c.in-Assertion.is (λ place lines once found at again. second_assertion c.args.self place lines (read_assertion c.in-Assertion.field-0) c.if-self-2.true found again)

pub returns-in-Assertion-2 : goal.returns-in-Assertion-2
returns-in-Assertion-2 c = rw c.in-Assertion-2.is (λ place lines once found at. with_assertion c.args.self place lines (read_assertion c.in-Assertion-2.field-0) c.if-self-2.false once found)

pub returns-in-Pass : goal.returns-in-Pass
returns-in-Pass c = rw c.in-Pass.is (λ place lines once found at. with_other c.args.self place lines forms.Pass refl refl refl once found)

pub returns-in-Declaration : goal.returns-in-Declaration
returns-in-Declaration c = rw c.in-Declaration.is (λ place lines once found at. with_other c.args.self place lines (forms.Declaration (read_point c.in-Declaration.field-0)) refl refl refl once found)

pub returns-in-Join : goal.returns-in-Join
returns-in-Join c = rw c.in-Join.is (λ place lines once found at. with_other c.args.self place lines (forms.Join (read_end c.in-Join.field-0) (read_end c.in-Join.field-1)) refl refl refl once found)
