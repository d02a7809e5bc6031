-- The seventh change request holds. specs/ says what each field is, with the request's sentence.
use Prim.Native.Nat.{ℕ}
use mathlib.Core.Path.{sym, ◌∙◌}
use mathlib.Core.List.{List}
use Rattle.paper.specs.Filling.{Query}
use Rattle.paper.specs.declared.Pair.{Pair}
use Rattle.causes.specs.Request.{MessagesFill, ChainFills, Shows}
use Rattle.causes.proofs.Messages.{one_list}
use Rattle.causes.proofs.Fills.{fits_number, fits_many, fits_items, number_answers, number_fits, number_refuses, number_keeps, number_fills}
use Rattle.causes.proofs.MessageCall.{its_many, its_messages, messages_fill}
use Rattle.causes.proofs.ChainCall.{its_chain, chain_fills}

module _ (q : Query) (list : List Pair) where
  messages_shown : MessagesFill q list
  messages_shown =
      let c = messages_fill q list in
      record {
        answered = number_answers c;
        refused = number_refuses c;
        kept = number_keeps c;
        accepted = (number_fits c, fits_number c);
        after = number_fills c;
        many = λ e. let f = number_fits c e in fits_many c f ∙ its_many q list f.0;
        listed = λ choice chosen e. let f = number_fits c e in rw (fits_items c f) (its_messages q list f.0 choice chosen);
        only = λ choice chosen e other m.
            let f = number_fits c e in one_list _ other _ m (its_messages q list f.0 choice chosen) ∙ sym (fits_items c f);
        one_answer = λ a b p r. p ∙ sym r;
      }

module _ (q : Query) (place : ℕ) (list : List ℕ) where
  chain_shown : ChainFills q place list
  chain_shown =
      let c = chain_fills q place list in
      record {
        answered = number_answers c;
        refused = number_refuses c;
        kept = number_keeps c;
        accepted = (number_fits c, fits_number c);
        after = number_fills c;
        listed = λ choice chosen e. let f = number_fits c e in rw (fits_items c f) (its_chain q place list f.0 f.1 choice chosen);
        one_answer = λ a b p r. p ∙ sym r;
      }

pub shows : Shows
shows = record { shows_messages = messages_shown; shows_chain = chain_shown }
