use Rattle.thm_home.proofs.AllAtBoard.{home_of_threads}
use Rattle.thm_home.proofs.ThreadsEnded.{end_of_threads}
use Rattle.thm_home.proofs.ThreadsMail.{mail_of_threads}
use Rattle.thm_home.proofs.laws.home_law.Goals as goal

pub returns-clause-mail : goal.returns-clause-mail
returns-clause-mail c = mail_of_threads

pub returns-clause-home : goal.returns-clause-home
returns-clause-home c = home_of_threads

pub returns-clause-end : goal.returns-clause-end
returns-clause-end c = end_of_threads
