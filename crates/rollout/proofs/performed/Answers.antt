use Rattle.rollout.proofs.Program.{complains, says}
use Rattle.rollout.proofs.performed.Goals as goal

pub returns-in-Err : goal.returns-in-Err
returns-in-Err g c = complains _ c.planned-plan.ensures c.in-Err.is c.complaint.ensures

pub returns-in-Ok : goal.returns-in-Ok
returns-in-Ok g c = says _ c.planned-plan.ensures c.in-Ok.is c.judge_named-said.ensures c.say.ensures

pub judge_named-said-requires : goal.judge_named-said-requires
judge_named-said-requires g c = c.planned-plan.ensures.wishes_within _ c.in-Ok.is
