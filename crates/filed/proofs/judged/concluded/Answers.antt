use Rattle.filed.proofs.Filed.{concludes}
use Rattle.filed.proofs.judged.concluded.Goals as goal

pub returns : goal.returns
returns g c = concludes _ _ _ _ _ c.judge_into-answer.ensures.is c.to_store-storing.ensures c.ended.ensures
