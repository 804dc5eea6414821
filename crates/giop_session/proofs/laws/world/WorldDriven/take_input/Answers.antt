use Rattle.giop_session.proofs.laws.world.WorldDriven.take_input.Goals as goal

pub returns-in-Call : goal.returns-in-Call
returns-in-Call c = rw c.in-Call.is c.at_client.ensures

pub returns-in-Locate : goal.returns-in-Locate
returns-in-Locate c = rw c.in-Locate.is c.at_client-in-Locate.ensures

pub returns-in-Cancel : goal.returns-in-Cancel
returns-in-Cancel c = rw c.in-Cancel.is c.at_client-in-Cancel.ensures

pub returns-in-SendClient : goal.returns-in-SendClient
returns-in-SendClient c = rw c.in-SendClient.is c.at_client-in-SendClient.ensures

pub returns-in-Answer : goal.returns-in-Answer
returns-in-Answer c = rw c.in-Answer.is c.at_server.ensures

pub returns-in-AnswerLocate : goal.returns-in-AnswerLocate
returns-in-AnswerLocate c = rw c.in-AnswerLocate.is c.at_server-in-AnswerLocate.ensures

pub returns-in-SendServer : goal.returns-in-SendServer
returns-in-SendServer c = rw c.in-SendServer.is c.at_server-in-SendServer.ensures

pub returns-in-ToServer : goal.returns-in-ToServer
returns-in-ToServer c = rw c.in-ToServer.is c.to_server.ensures

pub returns-in-ToClient : goal.returns-in-ToClient
returns-in-ToClient c = rw c.in-ToClient.is c.to_client.ensures
