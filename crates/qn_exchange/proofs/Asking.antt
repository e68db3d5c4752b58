-- What a request over a line did, from what its parts did.
use Rattle.std.proofs.Common.{◌≡◌, ℕ, Bool, List, Option, Some, sym, subst}
use Rattle.qn_etcd.specs.Answers.{ReadSays, read_says, said_by, write_says}
use Rattle.qn_etcd.specs.Keys.{sector_key, writer_key}
use Rattle.qn_etcd.specs.Requests.{holder_text, open_text, post_text, read_text, write_text}
use Rattle.qn_etcd.specs.declared.answers.ReadAnswer.{ReadAnswer}
use Rattle.qn_etcd.specs.declared.writers.Boot.{Boot}
use Rattle.qn_exchange.specs.declared.etcd_client.EtcdClient.{EtcdClient}
use Rattle.qn_exchange.specs.declared.etcd_client.SectorRead.{SectorRead}
use Rattle.qn_exchange.specs.Etcd.{Asks, Begins, FindsHolder, GivesSector, IsRelease, NotesWrite, OpensBoot, ReadsKey, Releases, SaysDone, WritesKey}

pub reads_key : (client : EtcdClient) (at : ℕ) (wrote writes unread rest : Option (List ℕ)) (given : SectorRead) (bytes text body : List ℕ) (said : ReadSays)
    → text ≡ read_text client.prefix.bytes client.writer at → Asks wrote writes unread rest (post_text client.host.bytes text) body
    → read_says (sector_key client.prefix.bytes at) body ≡ Some said → GivesSector (Some said) given bytes
    → ReadsKey client at wrote writes unread rest given bytes
reads_key client at wrote writes unread rest given bytes text body said is asks says gives = record {
  body = body;
  asks = subst (λ t. Asks wrote writes unread rest (post_text client.host.bytes t) body) is asks;
  gives = subst (λ s. GivesSector s given bytes) (sym says) gives;
}

pub writes_key : (client later : EtcdClient) (at : ℕ) (wrote writes unread rest : Option (List ℕ)) (done : Bool) (bytes text body : List ℕ) (said : Option ℕ)
    → text ≡ write_text client.prefix.bytes client.writer at bytes → Asks wrote writes unread rest (post_text client.host.bytes text) body
    → write_says body ≡ Some said → NotesWrite (Some said) done at client later
    → WritesKey client later at wrote writes unread rest done bytes
writes_key client later at wrote writes unread rest done bytes text body said is asks says notes = record {
  body = body;
  asks = subst (λ t. Asks wrote writes unread rest (post_text client.host.bytes t) body) is asks;
  notes = subst (λ s. NotesWrite s done at client later) (sym says) notes;
}

pub finds_holder : (client : EtcdClient) (rank : ℕ) (wrote writes unread rest : Option (List ℕ)) (found : ReadAnswer) (text body : List ℕ)
    → text ≡ holder_text client.prefix.bytes rank → Asks wrote writes unread rest (post_text client.host.bytes text) body
    → read_says (writer_key client.prefix.bytes rank) body ≡ Some (said_by found)
    → FindsHolder client rank wrote writes unread rest found
finds_holder client rank wrote writes unread rest found text body is asks says = record {
  body = body;
  asks = subst (λ t. Asks wrote writes unread rest (post_text client.host.bytes t) body) is asks;
  says = says;
}

pub opens_boot : (client later : EtcdClient) (boot : Boot) (revision : ℕ) (wrote writes unread rest : Option (List ℕ)) (done : Bool) (text body : List ℕ) (said : Option ℕ)
    → text ≡ open_text client.prefix.bytes boot.rank revision boot.token.items → Asks wrote writes unread rest (post_text client.host.bytes text) body
    → write_says body ≡ Some said → Begins (Some said) done boot client later
    → OpensBoot client later boot revision wrote writes unread rest done
opens_boot client later boot revision wrote writes unread rest done text body said is asks says begins = record {
  body = body;
  asks = subst (λ t. Asks wrote writes unread rest (post_text client.host.bytes t) body) is asks;
  begins = subst (λ s. Begins s done boot client later) (sym says) begins;
}

pub releases : (client : EtcdClient) (wrote writes unread rest : Option (List ℕ)) (done : Bool) (text sent body : List ℕ) (said : Option ℕ)
    → IsRelease client client.writer text → sent ≡ text → Asks wrote writes unread rest (post_text client.host.bytes sent) body
    → write_says body ≡ Some said → SaysDone (Some said) done
    → Releases client wrote writes unread rest done
releases client wrote writes unread rest done text sent body said is same asks says done_as = record {
  text = text;
  releases = is;
  body = body;
  asks = subst (λ t. Asks wrote writes unread rest (post_text client.host.bytes t) body) same asks;
  says = subst (λ s. SaysDone s done) (sym says) done_as;
}
