mod DrawnLaws
