use Rattle.css_text.proofs.stream.Stream.new.Goals as goal

pub invariant_of-result-clause-utf8 : goal.invariant_of-result-clause-utf8
invariant_of-result-clause-utf8 c = ∣ c.utf8.text ∣₁
