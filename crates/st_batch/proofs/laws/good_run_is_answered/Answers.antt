use Rattle.st_batch.proofs.GoodRun.{good-run}
use Rattle.st_batch.proofs.laws.good_run_is_answered.Goals as goal

pub returns : goal.returns
returns c o files input words job session status bytes told read asked given short h = good-run o files input words job session status bytes told read asked given short h
