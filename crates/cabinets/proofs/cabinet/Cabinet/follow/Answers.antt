use Rattle.std.proofs.Common.{◌+◌, ◌++◌, vec_items, sym, ap, ◌∙◌, append-nil, arith}
use Rattle.std.proofs.lemmas.List.{at_drop_all}
use Rattle.cabinets.specs.Cabinets.{group_of}
use Rattle.cabinets.specs.Groups.{after, answers_to}
use Rattle.cabinets.specs.Makes.{makes}
use Rattle.cabinets.proofs.Playing.{after_more, answers_more}
use Rattle.cabinets.proofs.Promising.{always, kept}
use Rattle.cabinets.proofs.cabinet.Cabinet.follow.Goals as goal

pub returns-in_err-answers-clause-always : goal.returns-in_err-answers-clause-always
returns-in_err-answers-clause-always g c = always g.A.Machine g.B.Machine

pub returns-in_err-reserve-clause-always : goal.returns-in_err-reserve-clause-always
returns-in_err-reserve-clause-always g c = always g.A.Machine g.B.Machine

pub returns-in_err-reserve-2-clause-always : goal.returns-in_err-reserve-2-clause-always
returns-in_err-reserve-2-clause-always g c = always g.A.Machine g.B.Machine

pub returns-in_err-reserve-3-clause-always : goal.returns-in_err-reserve-3-clause-always
returns-in_err-reserve-3-clause-always g c = always g.A.Machine g.B.Machine

pub call-requires : goal.call-requires
call-requires g c = c.loop-call.invariant.0 1 (omega (arith, c.loop-call-test.true))

pub push_reserved-requires : goal.push_reserved-requires
push_reserved-requires g c =
    let inv = c.loop-call.invariant in
    let within = c.loop-call-test.true in
    omega arith

pub loop-call-preserved : goal.loop-call-preserved
loop-call-preserved g c =
    let a = g.A.Machine in
    let b = g.B.Machine in
    let here = group_of a b c.loop-call.self in
    let next = group_of a b c.call.new.self in
    let cs = c.args.calls.now in
    let i = c.loop-call.call-index in
    let within = c.loop-call-test.true in
    let went = c.call.ensures.after in
    let said = c.call.ensures.answer in
    let told = c.push_reserved.ensures in
    let inv = c.loop-call.invariant in (
      λ n e. c.call.ensures.room n (inv.0 (n + 1) (omega arith)),
      omega (arith, told.len),
      omega (arith, told.capacity),
      after_more (makes a b) here next cs i _ within went ∙ inv.3,
      answers_more (makes a b) here next cs i _ (vec_items c.loop-call.answers) (vec_items c.push_reserved.new.self) c.call.result within went said told.items ∙ inv.4,
    )

pub returns : goal.returns
returns g c =
    let a = g.A.Machine in
    let b = g.B.Machine in
    let here = group_of a b c.loop-call.self in
    let first = group_of a b c.args.self.now in
    let cs = c.args.calls.now in
    let i = c.loop-call.call-index in
    let left = c.loop-call-test.false in
    let went = sym (at_drop_all (after (makes a b) here) cs i left) ∙ c.loop-call.invariant.3 in
    record {
      after = went;
      answers = sym (ap (λ xs. vec_items c.loop-call.answers ++ xs) (at_drop_all (answers_to (makes a b) here) cs i left) ∙ append-nil _) ∙ c.loop-call.invariant.4;
      none_made = tt;
      always = always a b;
      promise = kept a b first here cs went;
    }
