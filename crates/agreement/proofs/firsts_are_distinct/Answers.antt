use Rattle.std.proofs.Common.{eqb, [], refl}
use Rattle.std.proofs.lemmas.Bool.{and_parts, and_from, eqb-true, eq-eqb}
use Rattle.agreement.specs.Walks.{same_identity, identity_of}
use Rattle.agreement.proofs.Lists.{firsts_distinct}
use Rattle.agreement.proofs.firsts_are_distinct.Goals as goal

pub returns : goal.returns
returns c = record {
  distinct = firsts_distinct same_identity identity_of [];
  equal = λ a b. (
    λ e.
        let u = and_parts (eqb a.client b.client) (eqb a.number b.number) e in
        let p = eqb-true a.client b.client u.0 in
        let q = eqb-true a.number b.number u.1 in
        λ k. record { client = p k; number = q k },
    λ p. rw p (and_from (eqb b.client b.client) (eqb b.number b.number) (eq-eqb b.client b.client refl) (eq-eqb b.number b.number refl)),
  );
}
