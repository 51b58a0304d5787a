use Rattle.metis_completion.proofs.Keeping.{completed_besides, completed_keeps, completed_news, completed_of}
use Rattle.metis_completion.proofs.laws.completed_list_keeps_to_fresh_instances.Goals as goal

pub returns-clause-keeps : goal.returns-clause-keeps
returns-clause-keeps c = completed_keeps

pub returns-clause-besides : goal.returns-clause-besides
returns-clause-besides c = completed_besides

pub returns-clause-news : goal.returns-clause-news
returns-clause-news c = completed_news

pub returns-clause-numbers : goal.returns-clause-numbers
returns-clause-numbers c = λ u given new k of. completed_of u given k new of
