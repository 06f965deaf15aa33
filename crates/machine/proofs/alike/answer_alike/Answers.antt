use Rattle.std.proofs.Common.{◌≡◌, Decides, sym, ◌∙◌, arith}
use Rattle.std.proofs.lemmas.List.{at_drop_all}
use Rattle.machine.specs.Onces.{once}
use Rattle.machine.specs.Rules.{run, answers}
use Rattle.machine.proofs.Running.{run_more, answers_more}
use Rattle.machine.proofs.Alikes.{answer_alike, itself, layered, so_far_more}
use Rattle.machine.proofs.alike.answer_alike.Goals as goal

pub loop-command-preserved : goal.loop-command-preserved
loop-command-preserved g c =
    let m = g.M.Machine in
    let n = g.N.Machine in
    let i = c.loop-command.command-index in
    let within = c.loop-command-test.true in
    let eq = c.eq-alike.ensures in
    let same : Decides c.eq-alike.result (c.apply.result ≡ c.apply-in-loop-command.result) = grind arith in (
      run_more m.rule _ _ _ i _ within c.apply.ensures.after ∙ c.loop-command.invariant.0,
      run_more n.rule _ _ _ i _ within c.apply-in-loop-command.ensures.after ∙ c.loop-command.invariant.1,
      so_far_more _ _ _ _ _ _ _ _ same
          (answers_more m.rule _ _ _ i _ _ within c.apply.ensures.after c.apply.ensures.answer)
          (answers_more n.rule _ _ _ i _ _ within c.apply-in-loop-command.ensures.after c.apply-in-loop-command.ensures.answer)
          c.loop-command.invariant.2,
    )

pub returns : goal.returns
returns g c =
    let m = g.M.Machine in
    let n = g.N.Machine in
    let cs = c.args.commands.now in
    let i = c.loop-command.command-index in
    let left = c.loop-command-test.false in
    let one_none = at_drop_all (answers m.rule (m.means c.loop-command.one)) cs i left in
    let other_none = at_drop_all (answers n.rule (n.means c.loop-command.other)) cs i left in
    let so_far = c.loop-command.invariant.2 in
    record {
      one = sym (at_drop_all (run m.rule (m.means c.loop-command.one)) cs i left) ∙ c.loop-command.invariant.0;
      other = sym (at_drop_all (run n.rule (n.means c.loop-command.other)) cs i left) ∙ c.loop-command.invariant.1;
      told = (λ h. so_far.0 h (one_none ∙ sym other_none), λ e. (so_far.1 e).0);
      law = answer_alike m.rule n.rule;
      itself = itself m.rule;
      layered = layered m.rule n.rule;
      layers = answer_alike (once m.rule) (once n.rule);
    }
