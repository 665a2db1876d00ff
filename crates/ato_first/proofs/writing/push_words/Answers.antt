use Rattle.ato_first.proofs.writing.push_words.Goals as goal

pub returns-in-Attribute-clause-held : goal.returns-in-Attribute-clause-held
returns-in-Attribute-clause-held c = rw c.in-Attribute.is c.push_attribute.ensures.held

pub returns-in-Assertion-clause-held : goal.returns-in-Assertion-clause-held
returns-in-Assertion-clause-held c = rw c.in-Assertion.is c.push_assertion.ensures.held
