use Rattle.giop_session.proofs.OnWorlds.AgreementLemmas.{ends_agree, ends_fail_by_limits}
use Rattle.giop_session.proofs.laws.two_ends.agreement.two_ends_agree.Goals as goal

pub returns : goal.returns
returns c =
    let are_sound = c.own_ends_of_one_lane_agree.ensures.read in record {
      agreed = λ interface client_limits server_limits schedule told w run client_goes server_goes.
          ends_agree interface (are_sound interface) client_limits server_limits w schedule told run client_goes server_goes;
      fails = λ interface client_limits server_limits schedule told w run.
          ends_fail_by_limits interface (are_sound interface) client_limits server_limits w schedule told run;
    }
